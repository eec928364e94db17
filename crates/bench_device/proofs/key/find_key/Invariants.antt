use Rattle.std.proofs.Common.{◌≡◌, drop}
use Rattle.bench_device.specs.Bench.{find_key}
use Rattle.bench_device.specs.code.Keys.{all_meant}
use Rattle.bench_device.proofs.key.find_key.Given as goal

abbrev pub invariant-loop-key : goal.invariant-loop-key
invariant-loop-key l = find_key (all_meant (drop l.key-index l.keys)) l.name
    ≡ find_key (all_meant l.keys) l.name
