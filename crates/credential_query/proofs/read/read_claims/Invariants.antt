use Rattle.std.proofs.Common.{◌≡◌, true, ◌++◌, map, drop}
use Rattle.serde_json.specs.View.{view}
use Rattle.credential_query.specs.Meaning.{claims_of}
use Rattle.credential_query.specs.Readable.{are_readable_claims}
use Rattle.credential_query.proofs.read.read_claims.Given as goal

abbrev pub invariant-loop-value : goal.invariant-loop-value
invariant-loop-value l =
    (are_readable_claims (map view (drop l.value-index l.values)) ≡ true)
    × (l.claims.items ++ claims_of (map view (drop l.value-index l.values)) ≡ claims_of (map view l.values))
