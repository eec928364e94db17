use Rattle.std.proofs.Common.{ℕ, Option, Some, None, Bor, subst, ◌≡◌, ◌-◌, ap, sym, ◌∙◌, map, inl, inr, List}
use Rattle.std.proofs.Common.{[], ◌∷◌, ◌++◌, length, IfOk, arith}
use Rattle.std.specs.Prelude.{option_map}
use Rattle.std.proofs.lemmas.List.{map-append}
use Rattle.cbor_validity.specs.declared.key.Key.{Key}
use Rattle.cbor_validity.specs.code.KeySeen.{meaning_of}
use Rattle.cbor_validity.specs.Item.{pair_at, item_at}
use Rattle.cbor_validity.specs.Parts.{before_break}
use Rattle.cbor_validity.specs.Fine.{fine_at}
use Rattle.cbor_validity.specs.code.FineParts.{are_fine, fine_entry_at}
use Rattle.cbor_validity.proofs.OneWalk.{entries_after, entries_next, entries_stop, entries_done}
use Rattle.cbor_validity.proofs.OneWalk.{open_entries_next, open_entries_stop, open_entries_done, open_step}
use Rattle.cbor_validity.proofs.OneWalk.{open_fail, open_done, no_break, tag_head}
use Rattle.cbor_validity.proofs.fine.+fine.Goals as goal

pub after_items_to_break-returns-then-first : goal.after_items_to_break-returns-then-first
after_items_to_break-returns-then-first t c =
    open_done c.args.depth (length c.args.bytes.now) c.loop.counter c.in-Some.first.now c.in-Some.back.now
    c.loop.rest.now _ c.loop-test.true c.in-Some.ensures.cases.0 c.if-first.true c.loop.invariant

pub after_items_to_break-returns-in_default : goal.after_items_to_break-returns-in_default
after_items_to_break-returns-in_default t c =
    no_break (λ b. are_fine c.args.depth (before_break b)) (item_at c.args.depth) _ c.loop.rest.now _
    (inl c.in_default.ensures.cases) c.loop.invariant

pub after_items_to_break-returns : goal.after_items_to_break-returns
after_items_to_break-returns t c =
    no_break (λ b. are_fine c.args.depth (before_break b)) (item_at c.args.depth)
    (length c.args.bytes.now - c.loop.counter) c.loop.rest.now _
    (inr (omega (arith, c.loop-test.false))) c.loop.invariant

pub after_items_to_break-returns-in-None : goal.after_items_to_break-returns-in-None
after_items_to_break-returns-in-None t c =
    let none : fine_at c.args.depth c.loop.rest.now ≡ None =
    sym c.in_ok-after.ensures ∙ ap (option_map (λ (r : Bor (List ℕ)). r.now)) c.in-None.is in
    open_fail c.args.depth (length c.args.bytes.now) c.loop.counter c.in-Some.first.now c.in-Some.back.now
    c.loop.rest.now _ c.requires c.loop-test.true c.in-Some.ensures.cases.0 c.if-first.false none
    c.loop.invariant

pub after_items_to_break-loop-preserved : goal.after_items_to_break-loop-preserved
after_items_to_break-loop-preserved t c =
    let some : fine_at c.args.depth c.loop.rest.now ≡ Some c.in-Some-2.after.now =
    sym c.in_ok-after.ensures ∙ ap (option_map (λ (r : Bor (List ℕ)). r.now)) c.in-Some-2.is in
    open_step c.args.depth (length c.args.bytes.now) c.loop.counter c.in-Some.first.now c.in-Some.back.now
    c.loop.rest.now c.in-Some-2.after.now _ c.requires c.loop-test.true c.in-Some.ensures.cases.0
    c.if-first.false some c.loop.invariant

pub after_entries-returns-in_default : goal.after_entries-returns-in_default
after_entries-returns-in_default t c =
    let none : fine_entry_at c.args.depth c.loop.rest.now ≡ None =
    sym c.in_ok-key.ensures
    ∙ ap (option_map (λ (e : Key × Bor (List ℕ)). (meaning_of e.0, e.1.now))) c.in_default.is in
    entries_stop c.args.depth c.args.count c.loop.counter
    (map meaning_of c.loop.keys.items) c.loop.rest.now _ c.requires c.loop-test.true none c.loop.invariant

pub after_entries-loop-preserved : goal.after_entries-loop-preserved
after_entries-loop-preserved t c =
    let some : fine_entry_at c.args.depth c.loop.rest.now ≡ Some
    (meaning_of c.in-Some.key, c.in-Some.after.now) =
    sym c.in_ok-key.ensures
    ∙ ap (option_map (λ (e : Key × Bor (List ℕ)). (meaning_of e.0, e.1.now))) c.in-Some.is in
    let pushed : map meaning_of c.push.new.self.items ≡ map meaning_of c.loop.keys.items ++
    (meaning_of c.in-Some.key ∷ []) = ap (map meaning_of) c.in_ok-push.ensures.items
    ∙ map-append meaning_of c.loop.keys.items (c.in-Some.key ∷ []) in
    rw pushed (entries_next c.args.depth c.args.count c.loop.counter (map meaning_of c.loop.keys.items)
    (meaning_of c.in-Some.key) c.loop.rest.now c.in-Some.after.now _ c.requires c.loop-test.true some
    c.loop.invariant)

pub after_entries-returns : goal.after_entries-returns
after_entries-returns t c =
    c.if_different.ensures ∙ entries_done c.args.depth c.args.count c.loop.counter
    (map meaning_of c.loop.keys.items) c.loop.rest.now _ c.loop-test.false c.loop.invariant

pub after_entries_to_break-returns-in_default : goal.after_entries_to_break-returns-in_default
after_entries_to_break-returns-in_default t c =
    no_break (λ b. entries_after c.args.depth (map meaning_of c.loop.keys.items) (before_break b))
    (pair_at (item_at c.args.depth)) _ c.loop.rest.now _ (inl c.in_default.ensures.cases) c.loop.invariant

pub after_entries_to_break-returns : goal.after_entries_to_break-returns
after_entries_to_break-returns t c =
    no_break (λ b. entries_after c.args.depth (map meaning_of c.loop.keys.items) (before_break b))
    (pair_at (item_at c.args.depth)) (length c.args.bytes.now - c.loop.counter) c.loop.rest.now _
    (inr (omega (arith, c.loop-test.false))) c.loop.invariant

pub after_entries_to_break-returns-then-first : goal.after_entries_to_break-returns-then-first
after_entries_to_break-returns-then-first t c =
    c.if_different.ensures
    ∙ open_entries_done c.args.depth (length c.args.bytes.now) c.loop.counter c.in-Some.first.now
    (map meaning_of c.loop.keys.items) c.in-Some.back.now c.loop.rest.now _ c.loop-test.true
    c.in-Some.ensures.cases.0 c.if-first.true c.loop.invariant

pub after_entries_to_break-returns-in_default-2 : goal.after_entries_to_break-returns-in_default-2
after_entries_to_break-returns-in_default-2 t c =
    let none : fine_entry_at c.args.depth c.loop.rest.now ≡ None =
    sym c.in_ok-key.ensures
    ∙ ap (option_map (λ (e : Key × Bor (List ℕ)). (meaning_of e.0, e.1.now))) c.in_default-2.is in
    open_entries_stop c.args.depth (length c.args.bytes.now) c.loop.counter c.in-Some.first.now
    (map meaning_of c.loop.keys.items) c.in-Some.back.now c.loop.rest.now _ c.requires c.loop-test.true
    c.in-Some.ensures.cases.0 c.if-first.false none c.loop.invariant

pub after_entries_to_break-loop-preserved : goal.after_entries_to_break-loop-preserved
after_entries_to_break-loop-preserved t c =
    let some : fine_entry_at c.args.depth c.loop.rest.now ≡ Some
    (meaning_of c.in-Some-2.key, c.in-Some-2.after.now) =
    sym c.in_ok-key.ensures
    ∙ ap (option_map (λ (e : Key × Bor (List ℕ)). (meaning_of e.0, e.1.now))) c.in-Some-2.is in
    let pushed : map meaning_of c.push.new.self.items ≡ map meaning_of c.loop.keys.items ++
    (meaning_of c.in-Some-2.key ∷ []) = ap (map meaning_of) c.in_ok-push.ensures.items
    ∙ map-append meaning_of c.loop.keys.items (c.in-Some-2.key ∷ []) in
    rw pushed (open_entries_next c.args.depth (length c.args.bytes.now) c.loop.counter c.in-Some.first.now
    (map meaning_of c.loop.keys.items)
    (meaning_of c.in-Some-2.key) c.in-Some.back.now c.loop.rest.now c.in-Some-2.after.now _ c.requires
    c.loop-test.true c.in-Some.ensures.cases.0 c.if-first.false some c.loop.invariant)

pub after_fine-returns-in-Tag : goal.after_fine-returns-in-Tag
after_fine-returns-in-Tag t c =
    subst (λ (wanted : Option (List ℕ)). IfOk c.after_fine.result
    (λ o. option_map (λ (r : Bor (List ℕ)). r.now) o ≡ wanted))
    (tag_head c.args.depth c.args.bytes.now c.in-Ok.head c.in-Ok.back.now c.if-depth-gt0-3.true
    c.in-Ok.ensures c.in-Tag.field-0 c.requires c.in-Tag.is) c.after_fine.ensures
