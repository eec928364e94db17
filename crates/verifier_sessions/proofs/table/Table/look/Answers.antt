-- A short answer, so that an edit of the latest moment is refused at once.
use Rattle.std.proofs.Common.{rules}
use Rattle.verifier_sessions.proofs.table.Table.look.Goals as goal

pub returns-clause-table : goal.returns-clause-table
returns-clause-table c = search rules
