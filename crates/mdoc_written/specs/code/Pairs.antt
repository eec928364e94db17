-- Texts and encoded items that are lent, as the pairs of a map.
use Rattle.std.specs.Prelude.{ℕ, List, map}
use Rattle.std.specs.Borrow.{Bor}
use Rattle.cbor_core.specs.Order.{Pair}
use Rattle.mdoc_written.specs.Containers.{named}

abbrev pub lent : List (Bor (List ℕ) × Bor (List ℕ)) → List Pair
lent pairs = map (λ p. named p.0.now p.1.now) pairs
