-- The names of keys that the spec of a test document gives: `mkid:` with the identifier of an issuer's key
-- (RFC 9052, section 3.1), and `cose:` with a COSE key (RFC 9052, section 7), both in lower-case hexadecimal.
-- A name says its bytes where it is spelled as the name of these bytes is written.
use Rattle.std.specs.Prelude.{◌&&◌, ◌++◌, ℕ, Bool, List, codes, is_none, Option, Some, None, Result, Ok}
use Rattle.std.specs.Prelude.{Err, option_and_then, if◌then◌else◌}
use Rattle.std.specs.Str.{bytes_eq}
use Rattle.base_forms.specs.Base16.{hex_of, hex_read}
use Rattle.base_forms.specs.Texts.{Utf8}
use Rattle.cbor_core.specs.Rules.{broken_rule}
use Rattle.cose_sign1.specs.Sign1.{named_key}
use Rattle.spec_forms.specs.KeyNames.{after_colon}
use Rattle.mdoc_security.specs.DeviceKey.{is_key, key_bytes}

abbrev pub value_or_none : Result (List ℕ) ℕ → Option (List ℕ)
value_or_none (Ok bytes) = Some bytes
value_or_none (Err rule) = None

-- the bytes whose hexadecimal stands after the first colon
abbrev pub bytes_in : Utf8 → Option (List ℕ)
bytes_in name = value_or_none (hex_read (after_colon name))

-- ---- `mkid:`

abbrev pub if_key_identifier : Utf8 → List ℕ → Option (List ℕ)
if_key_identifier name bytes = if bytes_eq name (named_key bytes) then Some bytes else None

-- the identifier of an issuer's key
abbrev pub key_identifier_in : Utf8 → Option (List ℕ)
key_identifier_in name = option_and_then (if_key_identifier name) (bytes_in name)

-- ---- `cose:`

-- one item with no list or map inside, which is a key in deterministic encoding
abbrev pub is_written_key : List ℕ → Bool
is_written_key bytes =
    is_none (broken_rule 1 bytes) && (is_key bytes && bytes_eq (key_bytes bytes) bytes)

abbrev pub if_holder_key : Utf8 → List ℕ → Option (List ℕ)
if_holder_key name bytes =
    if bytes_eq name (codes "cose:" ++ hex_of bytes) && is_written_key bytes then Some bytes else None

-- the encoding of a holder's key
abbrev pub holder_key_in : Utf8 → Option (List ℕ)
holder_key_in name = option_and_then (if_holder_key name) (bytes_in name)
