-- The device key, which a mobile document is bound to: `deviceKey`, a COSE key (RFC 9052, section 7), of a
-- mobile security object (ISO/IEC 18013-5, section 9.1.2.4).
use Rattle.std.specs.Prelude.{ℕ, Bool, true, false, ◌&&◌, List, [], ◌∷◌, ◌++◌, codes, length, Option}
use Rattle.std.specs.Prelude.{option_map, option_and_then}
use Rattle.std.specs.Option.{option_map_or}
use Rattle.std.specs.List.{list_all}
use Rattle.std.specs.Ordering.{nat_cmp}
use Rattle.std.specs.Cmp.Lexicographic.{slice_cmp}
use Rattle.std.specs.BTreeMap.{insert_entry}
use Rattle.base_forms.specs.Base16.{hex_of}
use Rattle.cbor_core.specs.declared.kind.Kind.{Kind}
use Rattle.cbor_core.specs.declared.kind.Kind.TheVariants as kind
use Rattle.cbor_core.specs.Views.{Span, is_map, kind_of, whole_of, bytes_of, utf8_text_of, truth_of}
use Rattle.cbor_core.specs.Views.{entries_of, find_in}
use Rattle.cbor_core.specs.Writing.{head_bytes, whole_bytes, text_bytes, byte_string_bytes, truth_bytes}
use Rattle.cbor_core.specs.Writing.{pairs_bytes}
use Rattle.mdoc_items.specs.MapFields.{Entries}

abbrev pub device_key_in : Entries → Option Span
device_key_in entries =
    option_and_then (λ info. find_in (codes "deviceKey") (entries_of info))
    (find_in (codes "deviceKeyInfo") entries)

-- ---- the form: a map from integers or texts to integers, texts, byte strings or booleans

abbrev pub is_label : Kind → Bool
is_label kind.Whole = true
is_label kind.Text = true
is_label _ = false

abbrev pub is_parameter : Kind → Bool
is_parameter kind.Whole = true
is_parameter kind.Text = true
is_parameter kind.Bytes = true
is_parameter kind.Truth = true
is_parameter _ = false

abbrev pub is_labelled : Span × Span → Bool
is_labelled e = is_label (kind_of e.0) && is_parameter (kind_of e.1)

abbrev pub is_key : Span → Bool
is_key item = is_map (kind_of item) && list_all is_labelled (entries_of item)

-- ---- the deterministic encoding (RFC 8949, section 4.2.1)

-- the deterministic encoding of an integer, a text, a byte string or a boolean, and no bytes for other items
abbrev pub written_as : Kind → Span → List ℕ
written_as kind.Whole item = option_map_or whole_bytes (whole_of item) []
written_as kind.Text item = option_map_or text_bytes (utf8_text_of item) []
written_as kind.Bytes item = option_map_or byte_string_bytes (bytes_of item) []
written_as kind.Truth item = option_map_or truth_bytes (truth_of item) []
written_as _ item = []

abbrev pub written : Span → List ℕ
written item = written_as (kind_of item) item

-- the entries as written, put among others in the byte order of their keys
abbrev pub put_written : Entries → Entries → Entries
put_written [] ps = ps
put_written (e ∷ es) ps = put_written es (insert_entry (slice_cmp nat_cmp) ps (written e.0) (written e.1))

abbrev pub map_bytes : Entries → List ℕ
map_bytes ps = head_bytes 5 (length ps) ++ pairs_bytes ps

abbrev pub key_bytes : Span → List ℕ
key_bytes key = map_bytes (put_written (entries_of key) [])

abbrev pub key_name : Span → List ℕ
key_name key = codes "cose:" ++ hex_of (key_bytes key)

-- the name of the key, where there is one
abbrev pub holder_of : Entries → Option (List ℕ)
holder_of entries = option_map key_name (device_key_in entries)
