use Rattle.std.proofs.Common.{◌≡◌, ◌≤◌, ◌+◌, ◌-◌, [], ◌∷◌, ◌++◌, length, take, true, false, Some, None}
use Rattle.std.proofs.Common.{option_map, refl, sym, ap, ◌∙◌, subst, append-nil, arith}
use Rattle.std.specs.Option.{option_copied, option_to_list}
use Rattle.claim_tree.specs.Tree.{parts, part_named}
use Rattle.claim_names.specs.declared.address.Step.TheVariants as to
use Rattle.claim_path.specs.declared.path.PathStep.TheVariants.{Member, Place}
use Rattle.claim_path.specs.Select.{walk, step}
use Rattle.claim_path.specs.code.AddedHits.{AddsHits}
use Rattle.claim_path.proofs.Walks.{walk-nothing, member-in_record, place-past, place-loose}
use Rattle.claim_path.proofs.AddedHits.{AddsHits-nothing, AddsHits-one_more, AddsHits-wrong_part, popped}
use Rattle.claim_path.proofs.all_hits.+add_hits.Goals as goal

pub add_hits-returns-in-None-clause-added : goal.add_hits-returns-in-None-clause-added
add_hits-returns-in-None-clause-added g t c =
    let v = g.V.ClaimNode.tree c.args.view in
    let a = c.args.here.now in
    let k = c.in-Member.name in
    let e : c.args.steps.now ≡ Member k ∷ c.in-Some.rest.now = c.in-Some.ensures.cases.0
    ∙ ap (λ p. p ∷ c.in-Some.rest.now) c.in-Member.is in
    let n : part_named k v ≡ None = ap (λ l. part_named l v) (sym c.as_str.ensures) ∙ sym c.in-None.ensures in
    let s : step (Member k) (a, v) ≡ Some [] = member-in_record k a v (sym c.in-Record.ensures)
    ∙ ap (λ o. Some (option_to_list (option_map (λ u. (a ++ to.Name k ∷ [], u)) o))) n in
    AddsHits-nothing (option_copied c.args.values) c.args.steps.now (Member k) c.in-Some.rest.now
    (a, v) c.args.found.now.items e s

pub add_hits-returns-then-loose-clause-added : goal.add_hits-returns-then-loose-clause-added
add_hits-returns-then-loose-clause-added g t c =
    let v = g.V.ClaimNode.tree c.args.view in
    let a = c.args.here.now in
    let i = c.in-Place.place in
    let e : c.args.steps.now ≡ Place i ∷ c.in-Some.rest.now = c.in-Some.ensures.cases.0
    ∙ ap (λ p. p ∷ c.in-Some.rest.now) c.in-Place.is in
    let s : step (Place i) (a, v) ≡ Some [] = place-loose i a v (sym c.in-List-shape.ensures)
    (sym c.loose.ensures ∙ c.if-loose.true) in
    AddsHits-nothing (option_copied c.args.values) c.args.steps.now (Place i) c.in-Some.rest.now
    (a, v) c.args.found.now.items e s

pub add_hits-returns-else-place-len-clause-added : goal.add_hits-returns-else-place-len-clause-added
add_hits-returns-else-place-len-clause-added g t c =
    let v = g.V.ClaimNode.tree c.args.view in
    let a = c.args.here.now in
    let i = c.in-Place.place in
    let e : c.args.steps.now ≡ Place i ∷ c.in-Some.rest.now = c.in-Some.ensures.cases.0
    ∙ ap (λ p. p ∷ c.in-Some.rest.now) c.in-Place.is in
    let past : length (parts v) ≤ i = omega (arith, c.len.ensures) in
    let s : step (Place i) (a, v) ≡ Some [] = place-past i a v (sym c.in-List-shape.ensures) past in
    AddsHits-nothing (option_copied c.args.values) c.args.steps.now (Place i) c.in-Some.rest.now
    (a, v) c.args.found.now.items e s

pub add_hits_of_parts-loop-i-init : goal.add_hits_of_parts-loop-i-init
add_hits_of_parts-loop-i-init g t c = (
  refl,
  subst (λ w. AddsHits (option_copied c.args.values) w true c.args.found.now.items
      c.args.found.now.items) (sym (walk-nothing c.args.steps.now))
      (refl, sym (append-nil c.args.found.now.items)),
)

pub add_hits_of_parts-returns-then-not-right-clause-added :
    goal.add_hits_of_parts-returns-then-not-right-clause-added
add_hits_of_parts-returns-then-not-right-clause-added g t c =
    let ts = parts (g.V.ClaimNode.tree c.args.view) in
    let p = g.V.ClaimNode.tree c.at.result in
    let i = c.loop-i.i in
    let vs = option_copied c.args.values in
    let before = c.loop-i.invariant in
    let here : c.push.new.self ≡ c.args.here.now ++ to.Place i ∷ [] = c.in_ok-push.ensures.ok
    ∙ ap (λ a. a ++ to.Place i ∷ []) before.0 in
    let part : AddsHits vs (walk c.args.steps.now ((c.args.here.now ++ to.Place i ∷ [], p) ∷ [])) false
    c.loop-i.found.items c.add_hits.new.found.items =
    subst (λ a. AddsHits vs (walk c.args.steps.now ((a, p) ∷ [])) false c.loop-i.found.items
    c.add_hits.new.found.items) here
    (subst (λ r. AddsHits vs (walk c.args.steps.now ((c.push.new.self, p) ∷ [])) r c.loop-i.found.items
    c.add_hits.new.found.items) c.if-not-right.true c.in_ok-right.ensures.added) in
    AddsHits-wrong_part vs c.args.steps.now c.args.here.now ts
    (i + 1) c.args.found.now.items c.add_hits.new.found.items
    (AddsHits-one_more vs c.args.steps.now c.args.here.now ts i p false c.args.found.now.items
    c.loop-i.found.items c.add_hits.new.found.items c.at.ensures before.1 part)

pub add_hits_of_parts-loop-i-preserved : goal.add_hits_of_parts-loop-i-preserved
add_hits_of_parts-loop-i-preserved g t c =
    let ts = parts (g.V.ClaimNode.tree c.args.view) in
    let p = g.V.ClaimNode.tree c.at.result in
    let i = c.loop-i.i in
    let vs = option_copied c.args.values in
    let before = c.loop-i.invariant in
    let here : c.push.new.self ≡ c.args.here.now ++ to.Place i ∷ [] = c.in_ok-push.ensures.ok
    ∙ ap (λ a. a ++ to.Place i ∷ []) before.0 in
    let part : AddsHits vs (walk c.args.steps.now ((c.args.here.now ++ to.Place i ∷ [], p) ∷ [])) true
    c.loop-i.found.items c.add_hits.new.found.items =
    subst (λ a. AddsHits vs (walk c.args.steps.now ((a, p) ∷ [])) true c.loop-i.found.items
    c.add_hits.new.found.items) here
    (subst (λ r. AddsHits vs (walk c.args.steps.now ((c.push.new.self, p) ∷ [])) r c.loop-i.found.items
    c.add_hits.new.found.items) c.if-not-right.false c.in_ok-right.ensures.added) in
    let back = c.pop.ensures ∙ ap (λ a. take (length a - 1) a) (c.in_ok-right.ensures.back ∙ here)
    ∙ popped c.args.here.now (to.Place i) in (
      back,
      AddsHits-one_more vs c.args.steps.now c.args.here.now ts i p true c.args.found.now.items
          c.loop-i.found.items c.add_hits.new.found.items c.at.ensures before.1 part,
    )
