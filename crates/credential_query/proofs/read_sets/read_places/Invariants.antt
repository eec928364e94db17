use Rattle.std.proofs.Common.{◌≡◌, ◌++◌, map, drop}
use Rattle.serde_json.specs.View.{view}
use Rattle.credential_query.specs.Meaning.{claim_places}
use Rattle.credential_query.proofs.read_sets.read_places.Given as goal

abbrev pub invariant-loop-name : goal.invariant-loop-name
invariant-loop-name l = l.places.items ++ claim_places (map view l.claims)
    (map view (drop l.name-index l.names)) ≡ claim_places (map view l.claims) (map view l.names)
