-- Look-ups in the maps of a mobile document (ISO/IEC 18013-5), which are items of CBOR (RFC 8949).
use Rattle.std.specs.Prelude.{ℕ, ℤ, pos, negsuc, ◌==◌, Bool, true, false, List, Option, Some, None}
use Rattle.std.specs.Prelude.{option_and_then, is_none, if◌then◌else◌}
use Rattle.std.specs.Option.{option_map_or}
use Rattle.std.specs.Str.{bytes_eq}
use Rattle.cbor_core.specs.declared.kind.Kind.{Kind}
use Rattle.cbor_core.specs.declared.kind.Kind.TheVariants as kind
use Rattle.cbor_core.specs.Rules.{broken_rule}
use Rattle.cbor_core.specs.Views.{Span, is_map, kind_of, whole_of, bytes_of, utf8_text_of, tag_of, entries_of}
use Rattle.cbor_core.specs.Views.{find_in}

-- a text, by its bytes
abbrev pub Utf8 : Type 0
Utf8 = List ℕ

-- the entries of a map, each a key with its value; an item that is no map has none
abbrev pub Entries : Type 0
Entries = List (Span × Span)

abbrev pub is_list : Kind → Bool
is_list kind.List = true
is_list _ = false

-- an integer that is not negative
abbrev pub natural : ℤ → Option ℕ
natural (pos n) = Some n
natural (negsuc n) = None

abbrev pub natural_of : Span → Option ℕ
natural_of item = option_and_then natural (whole_of item)

-- the entries of an item that is a map
abbrev pub map_of : Span → Option Entries
map_of item = if is_map (kind_of item) then Some (entries_of item) else None

-- ---- the value of a name in a map

-- a key is the text of this name
abbrev pub is_named : Utf8 → Span → Bool
is_named name key = option_map_or (λ text. bytes_eq text name) (utf8_text_of key) false

abbrev pub text_at : Utf8 → Entries → Option Utf8
text_at name entries = option_and_then utf8_text_of (find_in name entries)

abbrev pub natural_at : Utf8 → Entries → Option ℕ
natural_at name entries = option_and_then natural_of (find_in name entries)

abbrev pub bytes_at : Utf8 → Entries → Option (List ℕ)
bytes_at name entries = option_and_then bytes_of (find_in name entries)

abbrev pub map_at : Utf8 → Entries → Option Entries
map_at name entries = option_and_then map_of (find_in name entries)

-- ---- items as the bytes of byte strings

-- Are the bytes one item, in which at most 32 lists, maps and tags lie inside one another?
abbrev pub is_one : List ℕ → Bool
is_one bytes = is_none (broken_rule 32 bytes)

-- the entries of the one map that bytes are
abbrev pub one_map : List ℕ → Option Entries
one_map bytes = if is_one bytes then map_of bytes else None

abbrev pub embedded_under : ℕ × Span → Option (List ℕ)
embedded_under t = if t.0 == 24 then bytes_of t.1 else None

-- the bytes of an encoded item that is embedded as a byte string under tag 24 (RFC 8949, section 3.4.5.1)
abbrev pub embedded : Span → Option (List ℕ)
embedded item = option_and_then embedded_under (tag_of item)
