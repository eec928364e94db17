use Rattle.std.proofs.Common.{◌≡◌, true, false, None, map, sym, ap, ◌∙◌, subst}
use Rattle.std.specs.Prelude.{IfSome}
use Rattle.std.specs.Option.{is_some}
use Rattle.serde_json.specs.View.{view}
use Rattle.base_forms.specs.Texts.{differ}
use Rattle.sdjwt_digests.specs.code.Disclosures.{all_said}
use Rattle.sdjwt_digests.specs.Disclosure.{said}
use Rattle.sdjwt_digests.specs.DigestSites.{digest_at, all_sites}
use Rattle.sdjwt_disclosures.specs.DisclosureRules.{reserved_names_rule, processing_rule}
use Rattle.sdjwt_disclosures.specs.DisclosureRules.{own_site_rule}
use Rattle.sdjwt_disclosures.proofs.ProcessingSteps.{first_here, first_past, last_here, all_together}
use Rattle.sdjwt_digests.proofs.FirstIndexes.{digests_said}
use Rattle.sdjwt_digests.specs.code.Sites.{AreSitesOf}
use Rattle.sdjwt_disclosures.proofs.ProcessingSteps.{not_differ, not_apart, all_apart}
use Rattle.sdjwt_disclosures.proofs.ProcessingSteps.{none_if, own_result}
use Rattle.sdjwt_disclosures.proofs.processing.process.Goals as goal

pub returns-in-Some : goal.returns-in-Some
unfolding processing_rule
returns-in-Some c = first_here _ _ _ (sym c.reserved_names_rule.ensures ∙ c.in-Some.is)

pub returns-then-not-branch : goal.returns-then-not-branch
unfolding processing_rule
returns-then-not-branch c =
    let m : reserved_names_rule (view c.args.payload.now) (map said c.args.list.now) ≡ None =
    sym c.reserved_names_rule.ensures ∙ none_if c.reserved_names_rule.result c.in_default.not-Some in
    let d : differ (map digest_at (all_sites (view c.args.payload.now) (map said c.args.list.now))) ≡ false =
    ap (λ ss. differ (map digest_at ss))
    (sym (all_together _ _ _ c.in_ok-sites.ensures))
    ∙ sym c.in_ok-are_apart.ensures ∙ c.if-not-branch.true in
    first_past _ _ m ∙ first_here _ _ 9 (not_apart (view c.args.payload.now) (map said c.args.list.now) d)

pub process_own-requires-clause-differ : goal.process_own-requires-clause-differ
process_own-requires-clause-differ c =
    let all : all_said c.in-Some-2.disclosures ≡ map said c.args.list.now =
    subst (λ o. IfSome o (λ ds. all_said ds ≡ map said c.args.list.now)) c.in-Some-2.is
    c.in_ok-disclosures.ensures.list in
    ap (λ ls. differ (map (λ l. l.digest) ls)) all ∙ ap differ (digests_said c.args.list.now)
    ∙ sym c.in_ok-disclosures.ensures.differ ∙ ap is_some c.in-Some-2.is

pub process_own-requires-clause-sites : goal.process_own-requires-clause-sites
process_own-requires-clause-sites c =
    let all : all_said c.in-Some-2.disclosures ≡ map said c.args.list.now =
    subst (λ o. IfSome o (λ ds. all_said ds ≡ map said c.args.list.now)) c.in-Some-2.is
    c.in_ok-disclosures.ensures.list in
    subst (λ ls. AreSitesOf c.in_ok-sites.sites (view c.args.payload.now) ls) (sym all) c.in_ok-sites.ensures

pub returns-in-Some-2 : goal.returns-in-Some-2
returns-in-Some-2 c =
    let all : all_said c.in-Some-2.disclosures ≡ map said c.args.list.now =
    subst (λ o. IfSome o (λ ds. all_said ds ≡ map said c.args.list.now)) c.in-Some-2.is
    c.in_ok-disclosures.ensures.list in
    let m : reserved_names_rule (view c.args.payload.now) (map said c.args.list.now) ≡ None =
    sym c.reserved_names_rule.ensures ∙ none_if c.reserved_names_rule.result c.in_default.not-Some in
    let d : differ (map digest_at (all_sites (view c.args.payload.now) (map said c.args.list.now))) ≡ true =
    ap (λ ss. differ (map digest_at ss))
    (sym (all_together _ _ _ c.in_ok-sites.ensures))
    ∙ sym c.in_ok-are_apart.ensures ∙ c.if-not-branch.false in
    own_result (view c.args.payload.now) (map said c.args.list.now)
    (all_said c.in-Some-2.disclosures) all m
    (all_apart (view c.args.payload.now) (map said c.args.list.now) d) c.process_own.result
    c.process_own.ensures

pub returns : goal.returns
unfolding processing_rule
returns c =
    let m : reserved_names_rule (view c.args.payload.now) (map said c.args.list.now) ≡ None =
    sym c.reserved_names_rule.ensures ∙ none_if c.reserved_names_rule.result c.in_default.not-Some in
    let d : differ (map digest_at (all_sites (view c.args.payload.now) (map said c.args.list.now))) ≡ true =
    ap (λ ss. differ (map digest_at ss))
    (sym (all_together _ _ _ c.in_ok-sites.ensures))
    ∙ sym c.in_ok-are_apart.ensures ∙ c.if-not-branch.false in
    let same : differ (map (λ l. l.digest) (map said c.args.list.now)) ≡ false =
    ap differ (digests_said c.args.list.now) ∙ sym c.in_ok-disclosures.ensures.differ
    ∙ ap is_some c.in-None.is in
    first_past _ _ m ∙ first_past _ _ (all_apart (view c.args.payload.now) (map said c.args.list.now) d)
    ∙ last_here (own_site_rule (view c.args.payload.now) (map said c.args.list.now))
    ∙ first_here _ _ 10 (not_differ (view c.args.payload.now) (map said c.args.list.now) same)
