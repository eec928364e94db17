use Rattle.std.proofs.Common.{◌≡◌, ◌++◌, drop}
use Rattle.cbor_core.specs.Writing.{pairs_bytes}
use Rattle.mdoc_written.specs.Containers.{map_bytes}
use Rattle.mdoc_written.specs.code.Pairs.{lent}
use Rattle.mdoc_written.proofs.pairs.named_map.Given as goal

abbrev pub invariant-loop-pair : goal.invariant-loop-pair
invariant-loop-pair l = l.writer ++ pairs_bytes (lent (drop l.pair-index l.pairs)) ≡ map_bytes (lent l.pairs)
