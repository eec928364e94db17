use Rattle.std.proofs.Common.{◌≡◌, ◌++◌}
use Rattle.mdoc_security.proofs.device_key.key_bytes.Given as goal

abbrev pub invariant-loop-pair : goal.invariant-loop-pair
invariant-loop-pair l = l.order.items ++ l.pair-iterator ≡ l.initial.pair-iterator
