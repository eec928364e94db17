-- The items inside an item (RFC 8949, section 3), by the bytes of its encoding.
use Rattle.std.specs.Prelude.{ℕ, zero, suc, ◌-◌, List, [], ◌∷◌, length, take, Bool, true, false, Option, Some}
use Rattle.std.specs.Prelude.{None, Result, Ok, Err}
use Rattle.cbor_validity.specs.declared.head.Fault.{Fault}
use Rattle.cbor_validity.specs.declared.head.Head.{Head}
use Rattle.cbor_validity.specs.declared.head.Head.TheVariants as head
use Rattle.cbor_validity.specs.declared.head.TheConstants.{MAX_DEPTH}
use Rattle.cbor_validity.specs.Head.{head_at}
use Rattle.cbor_validity.specs.Item.{Reader, item_at}

-- an item: the bytes of its encoding
abbrev pub Span : Type 0
Span = List ℕ

abbrev pub on_ok : {A B : Type 0} → Result A Fault → (A → B) → B → B
on_ok (Ok x) f d = f x
on_ok (Err e) f d = d

abbrev pub ends : Result (List ℕ) Fault → Bool
ends (Ok []) = true
ends (Ok (b ∷ bytes)) = false
ends (Err f) = false

-- the bytes are one item, with at most MAX_DEPTH lists, maps and tags inside one another
unfoldable pub is_item : List ℕ → Bool
is_item bytes = ends (item_at MAX_DEPTH bytes)

-- the bytes before `rest`, which is the end of them
abbrev pub before : List ℕ → List ℕ → List ℕ
before rest bytes = take (length bytes - length rest) bytes

-- the bytes cut into what `read` reads, one after another, up to where it fails
unfoldable pub cut : Reader → ℕ → List ℕ → List (List ℕ)
cut read turns [] = []
cut read zero (b ∷ bytes) = []
cut read (suc turns) (b ∷ bytes) =
    on_ok (read (b ∷ bytes)) (λ rest. before rest (b ∷ bytes) ∷ cut read turns rest) []

-- the items that the bytes are, one after another
unfoldable pub items_in : List ℕ → List (List ℕ)
items_in bytes = cut (item_at MAX_DEPTH) (length bytes) bytes

-- the bytes without the break at the end
abbrev pub before_break : List ℕ → List ℕ
before_break bytes = take (length bytes - 1) bytes

-- a value that an item's head and the bytes after it give
abbrev pub by_head : {A : Type 0} → (Head → List ℕ → A) → A → List ℕ → A
by_head f d bytes = on_ok (head_at bytes) (λ h. f h.0 h.1) d

abbrev pub text_by : Head → List ℕ → Option (List ℕ)
text_by (head.Text n) back = Some back
text_by _ back = None

-- the content of a text string
unfoldable pub text_of : List ℕ → Option (List ℕ)
text_of bytes = by_head text_by None bytes

abbrev pub map_by : Head → List ℕ → List ℕ
map_by (head.Map (Some n)) back = back
map_by (head.Map None) back = before_break back
map_by _ back = []

-- the bytes of a map's keys and values, one after another
unfoldable pub pairs_of : List ℕ → List ℕ
pairs_of bytes = by_head map_by [] bytes

-- keys and values in turn, as pairs
abbrev pub pair_up : List (List ℕ) → List (List ℕ × List ℕ)
pair_up [] = []
pair_up (key ∷ []) = []
pair_up (key ∷ value ∷ items) = (key, value) ∷ pair_up items

-- the entries of a map, in written order
abbrev pub entries_of : List ℕ → List (List ℕ × List ℕ)
entries_of bytes = pair_up (items_in (pairs_of bytes))

abbrev pub inside_by : Head → List ℕ → List ℕ
inside_by (head.List (Some n)) back = back
inside_by (head.List None) back = before_break back
inside_by (head.Map (Some n)) back = back
inside_by (head.Map None) back = before_break back
inside_by (head.Tag n) back = back
inside_by _ back = []

-- the bytes of the items directly inside an item, one after another
unfoldable pub inside_of : List ℕ → List ℕ
inside_of bytes = by_head inside_by [] bytes
