-- A short answer, so that an edit of a cause is refused at once.
use Rattle.std.proofs.Common.{rules}
use Rattle.outside.proofs.real.cause_of.Goals as goal

pub returns-in-OutOfMemory : goal.returns-in-OutOfMemory
returns-in-OutOfMemory c = search rules
