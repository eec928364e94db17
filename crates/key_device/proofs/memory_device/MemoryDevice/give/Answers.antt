use Rattle.std.proofs.Common.{rules}
use Rattle.key_device.proofs.memory_device.MemoryDevice.give.Goals as goal

pub returns-clause-genuine : goal.returns-clause-genuine
returns-clause-genuine c = search rules
