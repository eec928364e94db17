use Rattle.std.proofs.Common.{rules}
use Rattle.dcql_query.proofs.read_sets.read_credential_set.Goals as goal

pub returns : goal.returns
returns c = search rules
