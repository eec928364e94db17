use Rattle.std.proofs.Common.{◌≡◌, take}
use Rattle.cbor_writer.specs.Order.{owned, lent}
use Rattle.cbor_writer.proofs.order.lent_pairs.Given as goal

abbrev pub invariant-loop-pair : goal.invariant-loop-pair
invariant-loop-pair l = lent l.order.items ≡ owned (take l.pair-index l.pairs)
