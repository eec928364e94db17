-- Issuer-signed items as they are written (ISO/IEC 18013-5, section 8.3.2.1.2.2).
use Rattle.std.specs.Prelude.{ℕ, pos, List, [], ◌∷◌, codes}
use Rattle.std.specs.Int.{w128, to_be_bytes}
use Rattle.serde_json.specs.Data.{Data}
use Rattle.cbor_core.specs.Order.{Pair}
use Rattle.cbor_core.specs.Views.{Span}
use Rattle.cbor_core.specs.Writing.{whole_bytes, text_bytes, byte_string_bytes}
use Rattle.mdoc_written.specs.Containers.{map_bytes, named, embedded_bytes}
use Rattle.mdoc_written.specs.Element.{element_bytes}

-- The `random` of the element of this number: the number in 16 bytes, the most significant first. An issuer
-- of real documents draws it; a test issuer is to write the same bytes each time.
abbrev pub random_bytes : ℕ → List ℕ
random_bytes number = to_be_bytes w128 number

-- the entries of an item's map, in the bytewise order of their keys
abbrev pub item_entries : ℕ → List ℕ → Data → List Pair
item_entries number name value =
    named (codes "random") (byte_string_bytes (random_bytes number))
    ∷ named (codes "digestID") (whole_bytes (pos number))
    ∷ named (codes "elementValue") (element_bytes value)
    ∷ named (codes "elementIdentifier") (text_bytes name)
    ∷ []

-- the item of the element of this number, name and value
abbrev pub item_bytes : ℕ → List ℕ → Data → Span
item_bytes number name value = embedded_bytes (map_bytes (item_entries number name value))
