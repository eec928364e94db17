-- A short answer, so that an edit of what is put on record is refused at once.
use Rattle.std.proofs.Common.{rules}
use Rattle.outside.proofs.memory_store.MemoryStoreStore.read.Goals as goal

pub returns-then-is_err-clause-exact : goal.returns-then-is_err-clause-exact
returns-then-is_err-clause-exact c = search rules
