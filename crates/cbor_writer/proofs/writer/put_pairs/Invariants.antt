use Rattle.std.proofs.Common.{◌≡◌, ◌++◌, drop}
use Rattle.cbor_writer.specs.Order.{lent}
use Rattle.cbor_writer.specs.Writing.{pairs_bytes}
use Rattle.cbor_writer.proofs.writer.put_pairs.Given as goal

abbrev pub invariant-loop-pair : goal.invariant-loop-pair
invariant-loop-pair l =
    l.out.items ++ pairs_bytes (lent (drop l.pair-index l.pairs)) ≡ l.fn.out.items ++ pairs_bytes
    (lent l.pairs)
