use Rattle.std.proofs.Common.{◌+◌, ◌-◌, [], ◌∷◌, ◌++◌, ap, sym, ◌∙◌, append_assoc}
use Rattle.std.specs.List.{range_with_len}
use Rattle.credential_query.proofs.Ranges.{range_step}
use Rattle.credential_query.proofs.read_sets.all_places.Goals as goal

pub loop-place-preserved : goal.loop-place-preserved
loop-place-preserved c =
    let i = c.loop-place.place in
    let n = c.args.count in
    ap (λ v. v ++ range_with_len (i + 1) (n - (i + 1))) c.in_ok-push.ensures.items
    ∙ append_assoc c.loop-place.places.items (i ∷ []) (range_with_len (i + 1) (n - (i + 1)))
    ∙ ap (λ v. c.loop-place.places.items ++ v) (sym (range_step i n c.loop-place-test.true))
    ∙ c.loop-place.invariant
