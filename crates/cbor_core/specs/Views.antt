-- What an item says (RFC 8949, section 3), by the bytes of its encoding.
use Rattle.std.specs.Prelude.{ℕ, List, [], ◌∷◌, Bool, true, false, Option, Some, None, ℤ, pos, negsuc}
use Rattle.std.specs.Prelude.{option_and_then, ◌==◌, if◌then◌else◌}
use Rattle.std.specs.Option.{option_map_or}
use Rattle.std.specs.Str.{bytes_eq, is_utf8}
use Rattle.cbor_validity.specs.declared.head.Head.{Head}
use Rattle.cbor_validity.specs.declared.head.Head.TheVariants as head
use Rattle.cbor_core.specs.declared.kind.Kind.{Kind}
use Rattle.cbor_core.specs.declared.kind.Kind.TheVariants as kind
pub use Rattle.cbor_validity.specs.Parts.{Span, on_ok, ends, before, before_break, by_head, text_by, map_by}
pub use Rattle.cbor_validity.specs.Parts.{pair_up, entries_of, inside_by}
unfoldable pub use Rattle.cbor_validity.specs.Parts.{is_item, cut, items_in, text_of, pairs_of, inside_of}

abbrev pub whole_by : Head → List ℕ → Option ℤ
whole_by (head.Unsigned n) back = Some (pos n)
whole_by (head.Negative n) back = Some (negsuc n)
whole_by _ back = None

-- an integer: major types 0 and 1
unfoldable pub whole_of : List ℕ → Option ℤ
whole_of bytes = by_head whole_by None bytes

abbrev pub bytes_by : Head → List ℕ → Option (List ℕ)
bytes_by (head.Bytes n) back = Some back
bytes_by _ back = None

unfoldable pub bytes_of : List ℕ → Option (List ℕ)
bytes_of bytes = by_head bytes_by None bytes

abbrev pub if_utf8 : List ℕ → Option (List ℕ)
if_utf8 text = if is_utf8 text then Some text else None

-- a text string that is UTF-8
unfoldable pub utf8_text_of : List ℕ → Option (List ℕ)
utf8_text_of bytes = option_and_then if_utf8 (text_of bytes)

abbrev pub tag_by : Head → List ℕ → Option (ℕ × List ℕ)
tag_by (head.Tag n) back = Some (n, back)
tag_by _ back = None

-- the number of a tag, and the item that is tagged
unfoldable pub tag_of : List ℕ → Option (ℕ × List ℕ)
tag_of bytes = by_head tag_by None bytes

abbrev pub simple_truth : ℕ → Option Bool
simple_truth n = if n == 20 then Some false else if n == 21 then Some true else None

abbrev pub truth_by : Head → List ℕ → Option Bool
truth_by (head.Simple n) back = simple_truth n
truth_by _ back = None

unfoldable pub truth_of : List ℕ → Option Bool
truth_of bytes = by_head truth_by None bytes

abbrev pub simple_kind : ℕ → Kind
simple_kind n =
    if n == 20 then kind.Truth else if n == 21 then kind.Truth else if n == 22 then kind.Null else kind.Other

abbrev pub kind_by : Head → List ℕ → Kind
kind_by (head.Unsigned n) back = kind.Whole
kind_by (head.Negative n) back = kind.Whole
kind_by (head.Bytes n) back = kind.Bytes
kind_by (head.Text n) back = kind.Text
kind_by (head.List n) back = kind.List
kind_by (head.Map n) back = kind.Map
kind_by (head.Tag n) back = kind.Tag
kind_by (head.Simple n) back = simple_kind n
kind_by head.Float back = kind.Other
kind_by head.Break back = kind.Other

unfoldable pub kind_of : List ℕ → Kind
kind_of bytes = by_head kind_by kind.Other bytes

abbrev pub is_map : Kind → Bool
is_map kind.Map = true
is_map _ = false

abbrev pub list_by : Head → List ℕ → List ℕ
list_by (head.List (Some n)) back = back
list_by (head.List None) back = before_break back
list_by _ back = []

-- the bytes of a list's elements, one after another
unfoldable pub elements_of : List ℕ → List ℕ
elements_of bytes = by_head list_by [] bytes

-- the elements of a list, in written order
abbrev pub items_of : List ℕ → List (List ℕ)
items_of bytes = items_in (elements_of bytes)

-- the item is this text string
abbrev pub is_text : List ℕ → List ℕ → Bool
is_text name bytes = option_map_or (λ text. bytes_eq text name) (text_of bytes) false

-- the value of the first key that is this text string
abbrev pub find_in : List ℕ → List (List ℕ × List ℕ) → Option (List ℕ)
find_in name [] = None
find_in name (entry ∷ entries) = if is_text name entry.0 then Some entry.1 else find_in name entries
