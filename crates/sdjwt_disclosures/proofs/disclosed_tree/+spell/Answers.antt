use Rattle.std.proofs.Common.{◌≡◌, ◌<◌, false, [], ◌∷◌, ◌++◌, map, Some, option_map, IfOk, string_bytes, sym}
use Rattle.std.proofs.Common.{ap, ◌∙◌, arith, subst}
use Rattle.std.proofs.lemmas.Grind.{common_steps}
use Rattle.std.proofs.lemmas.List.{map-append}
use Rattle.serde_json.specs.Data.{member as field}
use Rattle.serde_json.specs.View.{view, items_view, members_view}
use Rattle.base_forms.specs.Texts.{Utf8, is_among}
use Rattle.sdjwt_digests.specs.code.Disclosures.{all_said}
use Rattle.owned_tree.specs.Owned.{tree_of, named_of}
use Rattle.owned_tree.specs.Prefixed.{prefixed}
use Rattle.sdjwt_disclosures.specs.DisclosedTree.{spelled, spelled_list, has_placeholder, left_out}
use Rattle.sdjwt_disclosures.specs.DisclosedTree.{plain_members}
use Rattle.owned_tree.specs.declared.owned.OwnedTree.{List as OwnedList}
use Rattle.sdjwt_disclosures.proofs.Orders.{plain_ascend}
use Rattle.sdjwt_disclosures.proofs.SpelledValues.{spelled-list, spelled-record, list_done, plain_step}
use Rattle.sdjwt_disclosures.proofs.disclosed_tree.+spell.Goals as goal

pub spell-returns-else-levels-eq0 : goal.spell-returns-else-levels-eq0
spell-returns-else-levels-eq0 t c =
    let h : 0 < c.args.levels = omega arith in
    subst (λ d. IfOk c.spell_list.result (λ o. option_map tree_of o ≡ d))
    (spelled-list c.args.levels
    (all_said c.args.disclosures.now) c.args.value.now c.in-Array.list c.in-Array.is h)
    c.spell_list.ensures

pub spell-returns-else-levels-eq0-2 : goal.spell-returns-else-levels-eq0-2
spell-returns-else-levels-eq0-2 t c =
    let h : 0 < c.args.levels = omega arith in
    subst (λ d. IfOk c.spell_record.result (λ o. option_map tree_of o ≡ d))
    (spelled-record c.args.levels
    (all_said c.args.disclosures.now) c.args.value.now c.in-Object.object c.in-Object.is h)
    c.spell_record.ensures

pub spell_list-returns : goal.spell_list-returns
spell_list-returns t c =
    let same = c.deref-item-items.ensures.value in
    let inner = spelled c.args.levels (all_said c.args.disclosures.now) in
    subst (λ items. Some (tree_of (OwnedList c.has_placeholder.result c.loop-item.elements))
    ≡ spelled_list inner (all_said c.args.disclosures.now) (items_view items)) same
    (list_done c.has_placeholder.result c.loop-item.elements inner
    (all_said c.args.disclosures.now) c.deref-item-items.result.now c.loop-item.item-index
    c.loop-item.invariant c.loop-item-test.false (c.has_placeholder.ensures
    ∙ sym (ap (λ items. has_placeholder (items_view items)) same)))

pub spell_plain-loop-name-preserved-in_ok-push : goal.spell_plain-loop-name-preserved-in_ok-push
spell_plain-loop-name-preserved-in_ok-push t c =
    let inner = spelled c.args.levels (all_said c.args.disclosures.now) in
    let k : Utf8 = string_bytes c.in-Some.name.now in
    let step : members_view c.loop-name.name-iterator ≡ field (string_bytes c.in-Some.name.now)
    (view c.in-Some.value.now) (members_view c.next.new.self) = ap members_view c.in-Some.ensures.steps in
    let kept : is_among (string_bytes c.in-Some.name.now) (left_out c.args.is_payload) ≡ false =
    ap (λ s. is_among s (left_out c.args.is_payload)) (sym c.as_str.ensures.value)
    ∙ sym c.is_left_out.ensures ∙ c.if-not-is_left_out.true in
    let is : spelled c.args.levels (all_said c.args.disclosures.now) (view c.in-Some.value.now) ≡ Some
    (tree_of c.in-Some-2.tree) = sym c.in_ok-tree.ensures ∙ ap (option_map tree_of) c.in-Some-2.is in
    let name : string_bytes c.in_ok-clone.field-0 ≡ string_bytes c.in-Some.name.now =
    grind (arith, common_steps, c.in_ok-clone.ensures.cases) in
    let pushed : map named_of c.push.new.self.items ≡ map named_of c.loop-name.members.items ++
    (string_bytes c.in-Some.name.now, false, tree_of c.in-Some-2.tree) ∷ [] =
    ap (map named_of) c.in_ok-push.ensures.items ∙ map-append named_of c.loop-name.members.items _
    ∙ ap (λ n. map named_of c.loop-name.members.items ++ (n, false, tree_of c.in-Some-2.tree) ∷ []) name
    in
    let rest = plain_members c.args.is_payload inner (members_view c.next.new.self) in
    ap (λ xs. prefixed xs
    (plain_members c.args.is_payload (spelled c.args.levels (all_said c.args.disclosures.now))
    (members_view c.next.new.self))) pushed
    ∙ plain_step (map named_of c.loop-name.members.items) c.args.is_payload
    (spelled c.args.levels (all_said c.args.disclosures.now)) (string_bytes c.in-Some.name.now)
    (view c.in-Some.value.now) (members_view c.next.new.self) (tree_of c.in-Some-2.tree) kept is
    ∙ ap (λ ms. prefixed (map named_of c.loop-name.members.items)
    (plain_members c.args.is_payload (spelled c.args.levels (all_said c.args.disclosures.now)) ms))
    (sym step)
    ∙ c.loop-name.invariant

pub spell_plain-returns-clause-order : goal.spell_plain-returns-clause-order
spell_plain-returns-clause-order t c =
    plain_ascend c.args.is_payload (spelled c.args.levels (all_said c.args.disclosures.now)) c.args.object.now
    (map named_of c.loop-name.members.items) c.loop-name.name-iterator
    c.into_iter-name-iterator.ensures.into_iter_gives.5 c.loop-name.invariant c.in-None.ensures.steps.0
