-- What the fields of a query in memory mean.
use Rattle.std.specs.Prelude.{option_map}
use Rattle.dcql_query.specs.declared.query.Query.TheInside as query
use Rattle.dcql_query.specs.Query.{Query}

abbrev pub query_in : query.Inside → Query
query_in q = record {
  credentials = q.credentials.items;
  sets = option_map (λ s. s.items) q.sets;
}
