use Rattle.std.proofs.Common.{◌≡◌, ◌++◌, map, drop}
use Rattle.serde_json.specs.View.{view}
use Rattle.credential_query.specs.Meaning.{given_sets}
use Rattle.credential_query.proofs.read_sets.read_given_sets.Given as goal

abbrev pub invariant-loop-set : goal.invariant-loop-set
invariant-loop-set l = map (λ s. s.items) l.given.items
    ++ given_sets (map view l.claims) (map view (drop l.set-index l.sets))
    ≡ given_sets (map view l.claims) (map view l.sets)
