-- Maps with their keys in the bytewise order of their encodings (RFC 8949, section 4.2.1).
use Rattle.std.specs.Prelude.{◌≡◌, ℕ, List, ◌++◌, length, map}
use Rattle.cbor_writer.specs.Writing.{head_bytes, pairs_bytes}
use Rattle.std.specs.Global.{Vec}
use Rattle.std.specs.Borrow.{Bor}
use Rattle.std.specs.Ordering.{nat_cmp}
use Rattle.std.specs.Cmp.Lexicographic.{slice_cmp}
use Rattle.std.specs.List.Sorted.{IsPermutation, IsSortedByKey}

-- the encodings of a key and of its value
abbrev pub Pair : Type 0
Pair = List ℕ × List ℕ

abbrev pub owned : List (Vec ℕ × Vec ℕ) → List Pair
owned pairs = map (λ p. (p.0.items, p.1.items)) pairs

abbrev pub lent : List (Bor (List ℕ) × Bor (List ℕ)) → List Pair
lent pairs = map (λ p. (p.0.now, p.1.now)) pairs

-- the same pairs, with the keys in bytewise order
abbrev pub AreInOrder : List Pair → List Pair → Type 0
AreInOrder pairs order = IsPermutation pairs order × IsSortedByKey (λ p. p.0) (slice_cmp nat_cmp) order

-- `new` is `old` with the map of the pairs at its end. There is one such map where the keys are distinct.
abbrev pub AppendsSortedMap : List ℕ → List ℕ → List Pair → Type 0
AppendsSortedMap old new pairs = (order : List Pair) × AreInOrder pairs order
    × (new ≡ old ++ (head_bytes 5 (length pairs) ++ pairs_bytes order))
