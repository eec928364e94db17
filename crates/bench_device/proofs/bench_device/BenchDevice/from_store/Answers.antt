use Rattle.std.proofs.Common.{rules}
use Rattle.bench_device.proofs.bench_device.BenchDevice.from_store.Goals as goal

pub returns-in-Err-NoMemory : goal.returns-in-Err-NoMemory
returns-in-Err-NoMemory g c = search rules
