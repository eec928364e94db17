use Rattle.std.proofs.Common.{rules}
use Rattle.bench_device.proofs.bench_device.is_bench.Goals as goal

pub returns-in-Cose : goal.returns-in-Cose
returns-in-Cose c = search rules
