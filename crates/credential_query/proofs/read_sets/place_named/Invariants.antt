use Rattle.std.proofs.Common.{◌≡◌, map, drop}
use Rattle.serde_json.specs.View.{view}
use Rattle.credential_query.specs.Meaning.{claim_from}
use Rattle.credential_query.proofs.read_sets.place_named.Given as goal

abbrev pub invariant-loop-place : goal.invariant-loop-place
invariant-loop-place l = claim_from l.place l.id (map view (drop l.place l.claims))
    ≡ claim_from 0 l.id (map view l.claims)
