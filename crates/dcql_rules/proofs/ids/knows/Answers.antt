use Rattle.std.proofs.Common.{rules}
use Rattle.dcql_rules.proofs.ids.knows.Goals as goal

pub returns-in-Some : goal.returns-in-Some
returns-in-Some c = search rules
