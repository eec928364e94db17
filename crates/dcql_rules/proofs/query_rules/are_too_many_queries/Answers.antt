use Rattle.std.proofs.Common.{refl}
use Rattle.dcql_rules.proofs.query_rules.are_too_many_queries.Goals as goal

pub returns : goal.returns
returns c = refl
