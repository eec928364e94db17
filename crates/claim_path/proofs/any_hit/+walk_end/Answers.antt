use Rattle.std.proofs.Common.{rules, ◌≡◌, ◌≤◌, ◌+◌, [], ◌∷◌, ◌++◌, length, take, Some, None, option_map}
use Rattle.std.proofs.Common.{sym, ap, ◌∙◌, arith}
use Rattle.std.specs.Option.{option_copied, option_to_list}
use Rattle.claim_tree.specs.Tree.{parts, part_named}
use Rattle.claim_names.specs.declared.address.Step.TheVariants as to
use Rattle.claim_path.specs.declared.path.PathStep.TheVariants.{Member, Place}
use Rattle.claim_path.specs.Select.{walk, step, spots_from}
use Rattle.claim_path.specs.code.WalkEnd.{end_of, both_ends}
use Rattle.claim_path.proofs.Walks.{walk-nothing, end_of-one_more, member-in_record, place-past, place-loose}
use Rattle.claim_path.proofs.Walks.{no_hit-dropped}
use Rattle.claim_path.proofs.any_hit.+walk_end.Goals as goal

pub parts-init : goal.parts-init
parts-init g t c = λ a. ap (end_of (option_copied c.args.values)) (sym (walk-nothing c.in-Some.rest.now))

pub parts-preserved : goal.parts-preserved
parts-preserved g t c = λ a.
    let ts = parts (g.V.ClaimNode.tree c.args.view) in
    let vs = option_copied c.args.values in
    c.and-so_far.ensures
    ∙ ap (λ x. both_ends x c.walk_end-in-parts.result) (c.parts.invariant a)
    ∙ ap (both_ends (end_of vs (walk c.in-Some.rest.now (spots_from a 0 (take c.parts.i ts)))))
    (c.walk_end-in-parts.ensures (a ++ to.Place (0 + length (take c.parts.i ts)) ∷ []))
    ∙ sym (end_of-one_more vs c.in-Some.rest.now a ts c.parts.i (g.V.ClaimNode.tree c.at.result) c.at.ensures)

pub returns-in-None : goal.returns-in-None
returns-in-None g t c = λ a.
    let v = g.V.ClaimNode.tree c.args.view in
    let e : c.args.steps.now ≡ Member c.in-Member.name ∷ c.in-Some.rest.now = (c.in-Some.ensures.cases).0
    ∙ ap (λ p. p ∷ c.in-Some.rest.now) c.in-Member.is in
    let n : part_named c.in-Member.name v ≡ None = ap (λ k. part_named k v) (sym c.as_str.ensures)
    ∙ sym c.in-None.ensures in
    let s : step (Member c.in-Member.name) (a, v) ≡ Some [] =
    member-in_record c.in-Member.name a v (sym c.in-Record.ensures)
    ∙ ap (λ o. Some (option_to_list (option_map (λ u. (a ++ to.Name c.in-Member.name ∷ [], u)) o))) n in
    no_hit-dropped (option_copied c.args.values) c.args.steps.now (Member c.in-Member.name) c.in-Some.rest.now
    (a, v) e s

pub returns-then-loose : goal.returns-then-loose
returns-then-loose g t c = λ a.
    let v = g.V.ClaimNode.tree c.args.view in
    let e : c.args.steps.now ≡ Place c.in-Place.place ∷ c.in-Some.rest.now = (c.in-Some.ensures.cases).0
    ∙ ap (λ p. p ∷ c.in-Some.rest.now) c.in-Place.is in
    let s : step (Place c.in-Place.place) (a, v) ≡ Some [] =
    place-loose c.in-Place.place a v (sym c.in-List-shape.ensures) (sym c.loose.ensures
    ∙ c.if-loose.true) in
    no_hit-dropped (option_copied c.args.values) c.args.steps.now (Place c.in-Place.place) c.in-Some.rest.now
    (a, v) e s

pub returns-else-place-len : goal.returns-else-place-len
returns-else-place-len g t c = λ a.
    let v = g.V.ClaimNode.tree c.args.view in
    let e : c.args.steps.now ≡ Place c.in-Place.place ∷ c.in-Some.rest.now = (c.in-Some.ensures.cases).0
    ∙ ap (λ p. p ∷ c.in-Some.rest.now) c.in-Place.is in
    let past : length (parts v) ≤ c.in-Place.place = omega (arith, c.len.ensures) in
    let s : step (Place c.in-Place.place) (a, v) ≡ Some [] =
    place-past c.in-Place.place a v (sym c.in-List-shape.ensures) past in
    no_hit-dropped (option_copied c.args.values) c.args.steps.now (Place c.in-Place.place) c.in-Some.rest.now
    (a, v) e s

pub returns-then-place-len : goal.returns-then-place-len
returns-then-place-len g t c = search rules
