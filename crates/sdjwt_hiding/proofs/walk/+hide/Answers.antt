use Rattle.std.proofs.Common.{◌≡◌, ◌≤◌, ◌++◌, ◌+◌, length, map, string_bytes, [], ◌∷◌, drop, suc, sym, ap}
use Rattle.std.proofs.Common.{◌∙◌, arith, subst}
use Rattle.std.specs.List.{AllByRecursion}
use Rattle.serde_json.specs.View.{view, items_view, members_view}
use Rattle.serde_json.proofs.Views.{view-Array, view-Object}
use Rattle.serde_json.specs.Data.{array, object as an_object, no_members as no_fields}
use Rattle.claim_names.specs.declared.address.Step.TheVariants.{Place as APlace}
use Rattle.sdjwt_hiding.specs.Hiding.{at, under, hidden, hidden_items, met, met_items}
use Rattle.sdjwt_hiding.specs.code.Walk.{marks_at}
use Rattle.sdjwt_hiding.specs.Disclosing.{by_sha256, all_told, IsReadBack}
use Rattle.sdjwt_hiding.specs.Issued.{all_made}
use Rattle.sdjwt_hiding.proofs.WalkSteps.{Keeps, keeps_element, entries_ascend, members_end, keeps_end}
use Rattle.sdjwt_hiding.proofs.WalkSteps.{keeps_made, keeps_read, keeps_named, cut_at, drop_past}
use Rattle.sdjwt_hiding.proofs.walk.+hide.Goals as goal

pub hide_list-loop-item-preserved : goal.hide_list-loop-item-preserved
hide_list-loop-item-preserved t c =
    let k = c.loop-item.invariant in
    let cut : drop c.loop-item.item-index c.deref-item-items.result.now ≡ c.item-item.result
    ∷ drop (c.loop-item.item-index + 1) c.deref-item-items.result.now =
    cut_at c.deref-item-items.result.now c.loop-item.item-index c.item-item.result c.loop-item-test.true
    c.item-item.is in
    let value = c.in_ok-inner.ensures.value
    ∙ ap (λ p. hidden by_sha256 (under (APlace c.loop-item.place) (marks_at c.args.marked.now p))
    (view c.item-item.result)) k.1 in
    let number = c.in_ok-inner.ensures.number
    ∙ ap (λ p. at (APlace c.loop-item.place) (marks_at c.args.marked.now p)) k.1 in
    let one = c.in_ok-inner.ensures.made
    ∙ ap (λ p. all_made c.loop-item.made.items ++ all_told
    (met by_sha256 (under (APlace c.loop-item.place) (marks_at c.args.marked.now p))
    (view c.item-item.result))) k.1 in
    let next = keeps_element (marks_at c.args.marked.now c.args.path.now) c.loop-item.place c.item-item.result
    (drop (c.loop-item.item-index + 1) c.deref-item-items.result.now) c.deref-item-items.result.now
    c.loop-item.items.items (all_made c.loop-item.made.items) (all_made c.hide_part.new.made.items)
    (all_made c.stand_element.new.made.items) (all_made c.args.made.now.items) c.in_ok-inner.inner
    c.in_ok-stand_element.field-0 c.in_ok-inner.number
    (subst (λ vs. Keeps (marks_at c.args.marked.now c.args.path.now) c.loop-item.place vs
    c.deref-item-items.result.now c.loop-item.items.items (all_made c.loop-item.made.items)
    (all_made c.args.made.now.items)) cut k.2)
    value number one c.in_ok-stand_element.ensures.stands c.in_ok-stand_element.ensures.made
    (subst (λ p. AllByRecursion IsReadBack
    (met by_sha256 (under (APlace c.loop-item.place) (marks_at c.args.marked.now p))
    (view c.item-item.result))) k.1 c.in_ok-inner.ensures.read)
    c.in_ok-stand_element.ensures.read in
    let more : suc c.loop-item.place ≡ c.loop-item.place + 1 = omega arith in
    let rest = drop (c.loop-item.item-index + 1) c.deref-item-items.result.now in
    let at_place = subst (λ n. Keeps (marks_at c.args.marked.now c.args.path.now) n
    (drop (c.loop-item.item-index + 1) c.deref-item-items.result.now) c.deref-item-items.result.now
    (c.loop-item.items.items ++ c.in_ok-stand_element.field-0
    ∷ []) (all_made c.stand_element.new.made.items) (all_made c.args.made.now.items)) more next in
    let pushed = subst (λ vs. Keeps (marks_at c.args.marked.now c.args.path.now) (c.loop-item.place + 1)
    (drop (c.loop-item.item-index + 1) c.deref-item-items.result.now) c.deref-item-items.result.now vs
    (all_made c.stand_element.new.made.items) (all_made c.args.made.now.items))
    (sym c.in_ok-push.ensures.items) at_place in
    (ap (λ n. n + 1) k.0, c.in_ok-inner.ensures.path ∙ k.1, pushed)

pub hide_list-returns-clause-value : goal.hide_list-returns-clause-value
hide_list-returns-clause-value t c =
    let k = c.loop-item.invariant in
    let end : length c.deref-item-items.result.now ≤ c.loop-item.item-index = c.loop-item-test.false in
    let shown = keeps_end (marks_at c.args.marked.now c.args.path.now) c.loop-item.place
    (drop c.loop-item.item-index c.deref-item-items.result.now) c.deref-item-items.result.now
    c.loop-item.items.items (all_made c.loop-item.made.items) (all_made c.args.made.now.items)
    (drop_past c.deref-item-items.result.now c.loop-item.item-index end) k.2 in
    view-Array c.loop-item.items ∙ ap array (shown
    ∙ ap (λ vs. hidden_items by_sha256 (marks_at c.args.marked.now c.args.path.now) 0 (items_view vs))
    c.deref-item-items.ensures.value)

pub hide_list-returns-clause-made : goal.hide_list-returns-clause-made
hide_list-returns-clause-made t c =
    let k = c.loop-item.invariant in
    let end : length c.deref-item-items.result.now ≤ c.loop-item.item-index = c.loop-item-test.false in
    keeps_made (marks_at c.args.marked.now c.args.path.now) c.loop-item.place
    (drop c.loop-item.item-index c.deref-item-items.result.now) c.deref-item-items.result.now
    c.loop-item.items.items (all_made c.loop-item.made.items) (all_made c.args.made.now.items)
    (drop_past c.deref-item-items.result.now c.loop-item.item-index end) k.2
    ∙ ap (λ vs. all_made c.args.made.now.items ++ all_told
    (met_items by_sha256 (marks_at c.args.marked.now c.args.path.now) 0 (items_view vs)))
    c.deref-item-items.ensures.value

pub hide_list-returns-clause-read : goal.hide_list-returns-clause-read
hide_list-returns-clause-read t c =
    let k = c.loop-item.invariant in
    let end : length c.deref-item-items.result.now ≤ c.loop-item.item-index = c.loop-item-test.false in
    subst (λ vs. AllByRecursion IsReadBack
    (met_items by_sha256 (marks_at c.args.marked.now c.args.path.now) 0 (items_view vs)))
    c.deref-item-items.ensures.value
    (keeps_read (marks_at c.args.marked.now c.args.path.now) c.loop-item.place
    (drop c.loop-item.item-index c.deref-item-items.result.now) c.deref-item-items.result.now
    c.loop-item.items.items (all_made c.loop-item.made.items) (all_made c.args.made.now.items)
    (drop_past c.deref-item-items.result.now c.loop-item.item-index end) k.2)

pub hide_object-loop-name-preserved : goal.hide_object-loop-name-preserved
hide_object-loop-name-preserved t c =
    let k = c.loop-name.invariant in (
      tt,
      tt,
      c.in_ok-inner.ensures.path ∙ k.2,
      keeps_named c.args.marked.now c.args.path.now c.loop-name.path c.in_ok-new.field-0
          c.as_str-in-loop-name.result.now (string_bytes c.in-Some.name.now) (view c.in-Some.value.now)
          (members_view c.loop-name.name-iterator) (members_view c.next.new.self)
          (members_view c.args.object.now.entries) (members_view c.loop-name.members.entries)
          (members_view c.stand_member.new.members.entries) (map string_bytes c.loop-name.digests.items)
          (map string_bytes c.stand_member.new.digests.items) (all_made c.loop-name.made.items)
          (all_made c.hide_part.new.made.items) (all_made c.stand_member.new.made.items)
          (all_made c.args.made.now.items) (view c.in_ok-inner.inner) c.in_ok-inner.number k.3 k.2
          (c.in_ok-new.ensures ∙ c.as_str.ensures.value) c.as_str-in-loop-name.ensures.value
          (ap members_view c.in-Some.ensures.steps) c.in_ok-inner.ensures.value c.in_ok-inner.ensures.number
          c.in_ok-inner.ensures.made c.in_ok-stand_member.ensures.stays c.in_ok-stand_member.ensures.digests
          c.in_ok-stand_member.ensures.made c.in_ok-inner.ensures.read c.in_ok-stand_member.ensures.read,
    )

pub hide_object-returns-clause-read : goal.hide_object-returns-clause-read
hide_object-returns-clause-read t c =
    let up = entries_ascend c.args.object.now.entries c.into_iter-name-iterator.ensures.into_iter_gives.5 in
    let end : members_view c.loop-name.name-iterator ≡ no_fields =
    ap members_view c.in-None.ensures.steps.0 in
    (members_end (marks_at c.args.marked.now c.args.path.now) (members_view c.loop-name.name-iterator)
    (members_view c.args.object.now.entries) (members_view c.loop-name.members.entries)
    (map string_bytes c.loop-name.digests.items) (all_made c.loop-name.made.items)
    (all_made c.args.made.now.items) end up c.loop-name.invariant.3).2

pub hide_object-returns-clause-made : goal.hide_object-returns-clause-made
hide_object-returns-clause-made t c =
    let up = entries_ascend c.args.object.now.entries c.into_iter-name-iterator.ensures.into_iter_gives.5 in
    let end : members_view c.loop-name.name-iterator ≡ no_fields =
    ap members_view c.in-None.ensures.steps.0 in
    (members_end (marks_at c.args.marked.now c.args.path.now) (members_view c.loop-name.name-iterator)
    (members_view c.args.object.now.entries) (members_view c.loop-name.members.entries)
    (map string_bytes c.loop-name.digests.items) (all_made c.loop-name.made.items)
    (all_made c.args.made.now.items) end up c.loop-name.invariant.3).1

pub hide_object-returns-clause-value : goal.hide_object-returns-clause-value
hide_object-returns-clause-value t c =
    let up = entries_ascend c.args.object.now.entries c.into_iter-name-iterator.ensures.into_iter_gives.5 in
    let end : members_view c.loop-name.name-iterator ≡ no_fields =
    ap members_view c.in-None.ensures.steps.0 in
    let both = members_end (marks_at c.args.marked.now c.args.path.now)
    (members_view c.loop-name.name-iterator) (members_view c.args.object.now.entries)
    (members_view c.loop-name.members.entries) (map string_bytes c.loop-name.digests.items)
    (all_made c.loop-name.made.items) (all_made c.args.made.now.items) end up c.loop-name.invariant.3 in
    view-Object c.put_digests.new.members ∙ ap an_object (c.in_ok-put_digests.ensures ∙ both.0)
