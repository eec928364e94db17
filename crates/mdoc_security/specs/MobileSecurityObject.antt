-- The mobile security object (ISO/IEC 18013-5, section 9.1.2.4): what an issuer signs, and its rules.
use Rattle.std.specs.Prelude.{ℕ, suc, Bool, true, false, not, ◌||◌, ◌==◌, List, [], ◌∷◌, codes, Option, None}
use Rattle.std.specs.Prelude.{option_map, option_and_then, is_none, unwrap_or, if◌then◌else◌}
use Rattle.std.specs.Option.{option_map_or}
use Rattle.std.specs.Str.{bytes_eq}
use Rattle.base_forms.specs.Rules.{rule, first}
use Rattle.base_forms.specs.Hash.{mso_hash_named}
use Rattle.base_forms.specs.declared.hash.HashName.{HashName}
use Rattle.base_forms.specs.declared.hash.HashName.TheVariants.{Sha256}
use Rattle.base_forms.specs.Tdate.{tdate_of}
use Rattle.cbor_core.specs.Views.{Span, utf8_text_of, tag_of, find_in}
use Rattle.mdoc_items.specs.MapFields.{Utf8, Entries, text_at, map_at, is_one, one_map, embedded}
use Rattle.mdoc_security.specs.ValueDigests.{digests_of}
use Rattle.mdoc_security.specs.DeviceKey.{device_key_in, is_key}

pub record MobileSecurityObject : Type 0 where
  pub entries : Entries
  pub algorithm : Utf8
  pub kind : Utf8
  pub digests : Entries
  pub validity : Entries

-- ---- the form

abbrev pub digests_at : Entries → Option Entries
digests_at entries = option_and_then digests_of (find_in (codes "valueDigests") entries)

abbrev pub security_object_by : Entries → Option MobileSecurityObject
security_object_by entries =
    option_and_then (λ algorithm.
    option_and_then (λ kind.
    option_and_then (λ digests.
    option_map (λ validity. record {
      entries = entries;
      algorithm = algorithm;
      kind = kind;
      digests = digests;
      validity = validity;
    })
    (map_at (codes "validityInfo") entries))
    (digests_at entries))
    (text_at (codes "docType") entries))
    (text_at (codes "digestAlgorithm") entries)

-- the bytes that the one item that bytes are embeds
abbrev pub sole_embedded : List ℕ → Option (List ℕ)
sole_embedded bytes = if is_one bytes then embedded bytes else None

-- what a payload of the form says
abbrev pub security_object_in : Option (List ℕ) → Option MobileSecurityObject
security_object_in payload =
    option_and_then security_object_by (option_and_then one_map (option_and_then sole_embedded payload))

-- ---- the hash

-- the hash that the digests are made by; rule 6 is broken where its name is none of a hash
abbrev pub hash_of : MobileSecurityObject → HashName
hash_of o = unwrap_or (mso_hash_named o.algorithm) Sha256

-- ---- the dates

abbrev pub moment_under : ℕ × Span → Option ℕ
moment_under t = if t.0 == 0 then option_and_then tdate_of (utf8_text_of t.1) else None

-- a date with its time under tag 0
abbrev pub moment_of : Span → Option ℕ
moment_of item = option_and_then moment_under (tag_of item)

abbrev pub moment_at : Utf8 → Entries → Option ℕ
moment_at name entries = option_and_then moment_of (find_in name entries)

-- the first second at which it is valid
abbrev pub first_in : MobileSecurityObject → Option ℕ
first_in o = moment_at (codes "validFrom") o.validity

-- the last second at which it is valid
abbrev pub last_in : MobileSecurityObject → Option ℕ
last_in o = moment_at (codes "validUntil") o.validity

-- the first second after its validity
abbrev pub past_in : MobileSecurityObject → Option ℕ
past_in o = option_map suc (last_in o)

-- ---- the rules

abbrev pub has_version : Entries → Bool
has_version entries =
    option_map_or (λ text. bytes_eq text (codes "1.0")) (text_at (codes "version") entries) false

-- no device key, or one that is not of the form
abbrev pub has_wrong_key : Entries → Bool
has_wrong_key entries = option_map_or (λ key. not (is_key key)) (device_key_in entries) true

-- rules 5 to 8: version, hash, dates, the device's key
unfoldable pub security_object_rule : MobileSecurityObject → Option ℕ
security_object_rule o = first
    (rule 5 (not (has_version o.entries))
    ∷ rule 6 (is_none (mso_hash_named o.algorithm))
    ∷ rule 7 (is_none (first_in o) || is_none (last_in o))
    ∷ rule 8 (has_wrong_key o.entries)
    ∷ [])
