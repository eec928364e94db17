use Rattle.std.proofs.Common.{rules}
use Rattle.cbor_core.proofs.item.EntriesIterator.next.Goals as goal

pub returns-clause-steps : goal.returns-clause-steps
returns-clause-steps c = search rules
