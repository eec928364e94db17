use Rattle.std.proofs.Common.{◌≡◌, None, Some, option_map, map, sym, ap, ◌∙◌}
use Rattle.serde_json.specs.View.{view}
use Rattle.sdjwt_digests.specs.code.Disclosures.{all_said}
use Rattle.owned_tree.specs.Owned.{named_of}
use Rattle.sdjwt_disclosures.specs.DisclosureRules.{names_rule}
use Rattle.sdjwt_disclosures.specs.DisclosedTree.{spelled_payload}
use Rattle.sdjwt_disclosures.proofs.ProcessingSteps.{first_here, first_past, not_reached, all_reached}
use Rattle.sdjwt_disclosures.proofs.ProcessingSteps.{too_deep}
use Rattle.sdjwt_disclosures.proofs.ProcessingSteps.{deep_enough, none_if}
use Rattle.sdjwt_disclosures.proofs.ProcessingSteps.{by_sites}
use Rattle.sdjwt_disclosures.proofs.processing.process_own.Goals as goal

pub returns-then-not-branch : goal.returns-then-not-branch
returns-then-not-branch c =
    first_here _ _ 10 (not_reached (view c.args.payload.now) (all_said c.args.disclosures.now)
    c.requires.differ
    (by_sites _ _ _ _ c.requires.sites c.in_ok-are_reached.ensures ∙ c.if-not-branch.true))

pub returns-in-Some : goal.returns-in-Some
returns-in-Some c =
    let add_reachable = all_reached (view c.args.payload.now) (all_said c.args.disclosures.now)
    c.requires.differ
    (by_sites _ _ _ _ c.requires.sites c.in_ok-are_reached.ensures ∙ c.if-not-branch.false) in
    first_past _ _ add_reachable ∙ first_here _ _ _ (sym c.in_ok-rule.ensures ∙ c.in-Some.is)

pub returns-in-Some-2 : goal.returns-in-Some-2
returns-in-Some-2 c =
    let add_reachable = all_reached (view c.args.payload.now) (all_said c.args.disclosures.now)
    c.requires.differ
    (by_sites _ _ _ _ c.requires.sites c.in_ok-are_reached.ensures ∙ c.if-not-branch.false) in
    let names : names_rule (view c.args.payload.now) (all_said c.args.disclosures.now) ≡ None =
    sym c.in_ok-rule.ensures ∙ none_if c.in_ok-rule.field-0 c.in_default.not-Some in
    let spelled : spelled_payload (all_said c.args.disclosures.now) (view c.args.payload.now) ≡ Some
    (map named_of c.in-Some-2.members.items) = sym c.in_ok-members.ensures
    ∙ ap (option_map (λ v. map named_of v.items)) c.in-Some-2.is in (
      first_past _ _ add_reachable ∙ first_past _ _ names
          ∙ first_past _ _ (deep_enough (view c.args.payload.now) (all_said c.args.disclosures.now)
          (map named_of c.in-Some-2.members.items) spelled),
      spelled,
    )

pub returns-in-None : goal.returns-in-None
returns-in-None c =
    let add_reachable = all_reached (view c.args.payload.now) (all_said c.args.disclosures.now)
    c.requires.differ
    (by_sites _ _ _ _ c.requires.sites c.in_ok-are_reached.ensures ∙ c.if-not-branch.false) in
    let names : names_rule (view c.args.payload.now) (all_said c.args.disclosures.now) ≡ None =
    sym c.in_ok-rule.ensures ∙ none_if c.in_ok-rule.field-0 c.in_default.not-Some in
    let spelled : spelled_payload (all_said c.args.disclosures.now) (view c.args.payload.now) ≡ None =
    sym c.in_ok-members.ensures ∙ ap (option_map (λ v. map named_of v.items)) c.in-None.is in
    first_past _ _ add_reachable ∙ first_past _ _ names
    ∙ first_here _ _ 14 (too_deep (view c.args.payload.now) (all_said c.args.disclosures.now) spelled)
