use Rattle.std.proofs.Common.{rules}
use Rattle.key_device.proofs.memory_device.MemoryDevice.tell.Goals as goal

pub returns-clause-told : goal.returns-clause-told
returns-clause-told c = search rules
