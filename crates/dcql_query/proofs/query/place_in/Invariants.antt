use Rattle.std.proofs.Common.{◌≡◌, drop}
use Rattle.dcql_query.specs.Query.{query_from}
use Rattle.dcql_query.proofs.query.place_in.Given as goal

abbrev pub invariant-loop-place : goal.invariant-loop-place
invariant-loop-place l = query_from l.place l.id (drop l.place l.credentials)
    ≡ query_from 0 l.id l.credentials
