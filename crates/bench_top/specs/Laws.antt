-- What holds of the commands of the bench.
use Rattle.std.specs.Prelude.{List, ℕ}
use Rattle.key_device.specs.Calls.{Held}
use Rattle.runs.specs.Counts.{Insists}
use Rattle.bench_top.specs.Command.{spec_tree}

-- No command passes over a fault.
abbrev pub PassesNoFault : Type 0
PassesNoFault = (held : Held) (name : List ℕ) → Insists (spec_tree held name)
