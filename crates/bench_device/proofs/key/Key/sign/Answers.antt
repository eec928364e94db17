use Rattle.std.proofs.Common.{rules}
use Rattle.bench_device.proofs.key.Key.sign.Goals as goal

pub returns : goal.returns
returns c = search rules
