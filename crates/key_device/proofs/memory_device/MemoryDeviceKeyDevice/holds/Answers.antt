use Rattle.std.proofs.Common.{rules}
use Rattle.key_device.proofs.memory_device.MemoryDeviceKeyDevice.holds.Goals as goal

pub returns-then-is_among : goal.returns-then-is_among
returns-then-is_among c = search rules
