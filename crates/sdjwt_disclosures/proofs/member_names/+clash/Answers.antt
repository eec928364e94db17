use Rattle.std.proofs.Common.{◌≡◌, true, false, map, ap, sym, ◌∙◌, subst, IfOk}
use Rattle.std.specs.List.{list_any}
use Rattle.std.specs.Option.{is_some}
use Rattle.serde_json.specs.Find.{get_member}
use Rattle.serde_json.specs.View.{members_view}
use Rattle.base_forms.specs.Texts.{differ}
use Rattle.sdjwt_digests.specs.code.Disclosures.{all_said}
use Rattle.sdjwt_disclosures.proofs.Clashes.{clash_rest}
use Rattle.sdjwt_disclosures.proofs.member_names.+clash.Goals as goal

pub has_clash-returns-else-has_any_member : goal.has_clash-returns-else-has_any_member
has_clash-returns-else-has_any_member t c =
    let apart : differ (map (λ s. s.now) c.in_ok-names-in-Object.names.items) ≡ true =
    ap (λ ns. differ (map (λ s. s.now) ns)) (sym c.deref.ensures.value)
    ∙ sym c.in_ok-are_distinct-in-Object.ensures ∙ c.if-not-branch.false in
    let new : list_any (λ k. is_some (get_member k (members_view c.in-Object.object.entries)))
    (map (λ s. s.now) c.in_ok-names-in-Object.names.items) ≡ false =
    ap (λ ns. list_any (λ k. is_some (get_member k (members_view c.in-Object.object.entries)))
    (map (λ s. s.now) ns)) (sym c.deref-else-not-branch.ensures.value) ∙ sym c.has_any_member.ensures
    ∙ c.if-has_any_member.false in
    subst (λ w. IfOk c.members_have_clash.result (λ b. b ≡ w))
    (clash_rest (all_said c.args.disclosures.now) c.args.value.now c.in-Object.object
    (map (λ s. s.now) c.in_ok-names-in-Object.names.items) c.in-Object.is apart new
    c.in_ok-names-in-Object.ensures) c.members_have_clash.ensures
