use Rattle.std.proofs.Common.{◌≡◌, ◌++◌, map, drop}
use Rattle.serde_json.specs.View.{view}
use Rattle.dcql_query.specs.Meaning.{credential_sets_of}
use Rattle.dcql_query.proofs.read_sets.read_credential_sets.Given as goal

abbrev pub invariant-loop-set : goal.invariant-loop-set
invariant-loop-set l = l.read.items ++ credential_sets_of (map view l.queries)
    (map view (drop l.set-index l.sets)) ≡ credential_sets_of (map view l.queries) (map view l.sets)
