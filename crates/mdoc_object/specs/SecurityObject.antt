-- The mobile security object (ISO/IEC 18013-5, section 9.1.2.4) as an issuer writes it, and `IssuerSigned`
-- (section 8.3.2.1.2.2). The keys of each map stand in the bytewise order of their encodings.
use Rattle.std.specs.Prelude.{ℕ, List, [], ◌∷◌, ◌++◌, codes}
use Rattle.base_forms.specs.Texts.{Utf8}
use Rattle.cbor_core.specs.Order.{Pair}
use Rattle.cbor_core.specs.Views.{Span}
use Rattle.cbor_core.specs.Writing.{head_bytes, text_bytes}
use Rattle.mdoc_dates.specs.Tdate.{tdate_text}
use Rattle.mdoc_object.specs.Namespaces.{WrittenNamespace}
use Rattle.mdoc_object.specs.ValueDigests.{value_digests_bytes}
use Rattle.mdoc_written.specs.Containers.{map_bytes, named, embedded_bytes}

-- ---- `validityInfo`

-- a date with its time under tag 0
abbrev pub tdate_bytes : ℕ → Span
tdate_bytes seconds = head_bytes 6 0 ++ text_bytes (tdate_text seconds)

-- It is signed when its validity begins.
abbrev pub validity_entries : ℕ → ℕ → List Pair
validity_entries from until =
    named (codes "signed") (tdate_bytes from)
    ∷ named (codes "validFrom") (tdate_bytes from)
    ∷ named (codes "validUntil") (tdate_bytes until)
    ∷ []

abbrev pub validity_bytes : ℕ → ℕ → Span
validity_bytes from until = map_bytes (validity_entries from until)

-- ---- `deviceKeyInfo`

abbrev pub device_key_entries : Span → List Pair
device_key_entries key = named (codes "deviceKey") key ∷ []

-- ---- the object

-- What an object says beside the digests: the type of document, the first and the last second at which it is
-- valid, the holder's key.
pub record ObjectParts : Type 0 where
  pub kind : Utf8
  pub from : ℕ
  pub until : ℕ
  pub key : Span

abbrev pub object_entries : ObjectParts → List WrittenNamespace → List Pair
object_entries o ns =
    named (codes "docType") (text_bytes o.kind)
    ∷ named (codes "version") (text_bytes (codes "1.0"))
    ∷ named (codes "validityInfo") (validity_bytes o.from o.until)
    ∷ named (codes "valueDigests") (value_digests_bytes ns)
    ∷ named (codes "deviceKeyInfo") (map_bytes (device_key_entries o.key))
    ∷ named (codes "digestAlgorithm") (text_bytes (codes "SHA-256"))
    ∷ []

-- what is signed: the object, embedded as a byte string
abbrev pub payload_bytes : ObjectParts → List WrittenNamespace → List ℕ
payload_bytes o ns = embedded_bytes (map_bytes (object_entries o ns))

-- ---- `IssuerSigned`

abbrev pub issuer_signed_entries : Span → Span → List Pair
issuer_signed_entries auth namespaces =
    named (codes "issuerAuth") auth ∷ named (codes "nameSpaces") namespaces ∷ []

abbrev pub issuer_signed_bytes : Span → Span → Span
issuer_signed_bytes auth namespaces = map_bytes (issuer_signed_entries auth namespaces)
