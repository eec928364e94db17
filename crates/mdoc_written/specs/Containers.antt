-- Lists, maps and embedded items in deterministic encoding (RFC 8949, sections 3.4.5.1 and 4.2.1).
use Rattle.std.specs.Prelude.{◌≡◌, ⊤, false, ℕ, List, [], ◌∷◌, ◌++◌, length}
use Rattle.std.specs.List.{concat, AllByRecursion}
use Rattle.std.specs.Ordering.{is_eq, nat_cmp, match_ordering}
use Rattle.std.specs.Cmp.Lexicographic.{slice_cmp}
use Rattle.cbor_core.specs.Order.{Pair}
use Rattle.cbor_core.specs.Views.{Span}
use Rattle.cbor_core.specs.Writing.{head_bytes, text_bytes, byte_string_bytes, pairs_bytes}

-- a list of these items
abbrev pub list_bytes : List Span → Span
list_bytes items = head_bytes 4 (length items) ++ concat items

-- a map of these pairs, which stand in the bytewise order of their keys
abbrev pub map_bytes : List Pair → Span
map_bytes pairs = head_bytes 5 (length pairs) ++ pairs_bytes pairs

-- one more pair, in its place by the bytes of its key
abbrev pub put_by_key : Pair → List Pair → List Pair
put_by_key p [] = p ∷ []
put_by_key p (q ∷ qs) =
    match_ordering (slice_cmp nat_cmp p.0 q.0) (p ∷ q ∷ qs) (p ∷ q ∷ qs) (q ∷ put_by_key p qs)

-- the pairs in the bytewise order of their keys
abbrev pub by_key : List Pair → List Pair
by_key [] = []
by_key (p ∷ ps) = put_by_key p (by_key ps)

-- two keys are not equal
abbrev pub Differ : Pair → Pair → Type 0
Differ p q = is_eq (slice_cmp nat_cmp p.0 q.0) ≡ false

-- each is so related to all that follow it
abbrev pub AllRelated : {X : Type 0} → (X → X → Type 0) → List X → Type 0
AllRelated R [] = ⊤
AllRelated R (x ∷ xs) = AllByRecursion (R x) xs × AllRelated R xs

-- a map of these pairs, brought into order
abbrev pub sorted_map_bytes : List Pair → Span
sorted_map_bytes pairs = map_bytes (by_key pairs)

-- a text and the item that it is the key of
abbrev pub named : List ℕ → Span → Pair
named name value = (text_bytes name, value)

-- the bytes of an encoded item, embedded as a byte string under tag 24
abbrev pub embedded_bytes : Span → Span
embedded_bytes item = head_bytes 6 24 ++ byte_string_bytes item
