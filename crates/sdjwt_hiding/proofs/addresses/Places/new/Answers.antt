use Rattle.std.proofs.Common.{◌≡◌, ◌<◌, ◌+◌, ◌-◌, ℕ, List, cond, length, drop, [], Some, sym, ap, subst, Ordering}
use Rattle.std.proofs.Common.{◌∙◌, arith}
use Rattle.std.specs.Borrow.{Bor}
use Rattle.std.specs.BTreeMap.{get_by}
use Rattle.std.specs.Cmp.Lexicographic.{slice_cmp}
use Rattle.std.specs.Map.{lookup}
use Rattle.std.specs.Ordering.{is_eq}
use Rattle.claim_names.specs.Order.{address_cmp}
use Rattle.claim_names.specs.declared.address.Step.{Step}
use Rattle.sdjwt_hiding.specs.Addresses.{number_in}
use Rattle.sdjwt_hiding.proofs.Placing.{shifted, shifted_none, same_order, placed}
use Rattle.sdjwt_hiding.proofs.WalkSteps.{cut_at, drop_past}
use Rattle.sdjwt_hiding.proofs.addresses.Places.new.Goals as goal

pub loop-i-init : goal.loop-i-init
loop-i-init c = λ a.
    let all = c.args.addresses.now in
    let past : drop (length all) all ≡ [] = drop_past all (length all) (omega arith) in
    ap (lookup (λ k. is_eq (address_cmp a k.now))) c.new-order.ensures.empty
    ∙ ap (λ (hs : List (List Step)). shifted (length all) (number_in hs a)) (sym past)

pub loop-i-preserved : goal.loop-i-preserved
loop-i-preserved c = λ a.
    let all = c.args.addresses.now in
    let place : ℕ = c.loop-i.i - 1 in
    let more : place + 1 ≡ c.loop-i.i = omega arith in
    let within : place < length all = omega arith in
    let cut = cut_at all place c.index-addresses-i.result within c.index-addresses-i.is in
    let before = get_by (λ k. address_cmp a k.now) c.loop-i.order in
    let was : before ≡ shifted (place + 1) (number_in (drop (place + 1) all) a) = c.loop-i.invariant a
    ∙ ap (λ (n : ℕ). shifted n (number_in (drop n all) a)) (sym more) in
    let key : Bor (List Step) = record { ref_ptr = (0, 0); now = a } in
    let is : get_by (λ k. address_cmp a k.now) c.insert.new.self
    ≡ cond (is_eq (address_cmp c.index-addresses-i.result a)) (Some place) before =
    subst (λ (R : Step → Step → Ordering). get_by (λ k. slice_cmp R a k.now) c.insert.new.self
    ≡ cond (is_eq (slice_cmp R c.steps.result.now a)) (Some place)
    (get_by (λ k. slice_cmp R a k.now) c.loop-i.order)) same_order (c.in_ok-insert.ensures.updates.0 key)
    ∙ ap (λ (h : List Step). cond (is_eq (address_cmp h a)) (Some place) before) c.steps.ensures in
    placed place c.index-addresses-i.result a (drop (place + 1) all) before _ was is
    ∙ ap (λ (hs : List (List Step)). shifted place (number_in hs a)) (sym cut)

pub returns : goal.returns
returns c = λ a.
    let all = c.args.addresses.now in
    let none : c.loop-i.i ≡ 0 = omega arith in
    c.loop-i.invariant a ∙ ap (λ (n : ℕ). shifted n (number_in (drop n all) a)) none
    ∙ shifted_none (number_in all a)
