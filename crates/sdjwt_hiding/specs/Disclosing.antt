-- Disclosures as an issuer of tests writes them: their salts are their numbers, so that what is written is
-- determined (RFC 9901, sections 4.2.1 to 4.2.3, which ask for random salts).
use Rattle.std.specs.Prelude.{◌≡◌, ◌≤◌, ℕ, List, map, Option, Some, None}
use Rattle.std.specs.Int.{w128, to_be_bytes}
use Rattle.serde_json.specs.Data.{Data, string, array, no_items, item, depth}
use Rattle.serde_json.specs.Written.{compact_text}
use Rattle.base_forms.specs.Texts.{Utf8}
use Rattle.base_forms.specs.Url64.{url64_of}
use Rattle.base_forms.specs.declared.hash.HashName.TheVariants.{Sha256}
use Rattle.sdjwt_digests.specs.Disclosures.{digest_of, disclosed}
use Rattle.sdjwt_hiding.specs.Hiding.{Digests, Marks, Numbered, met, by_number}

-- the base64url of 16 bytes that are the number, the highest byte first
abbrev pub salt : ℕ → Utf8
salt n = url64_of (to_be_bytes w128 n)

-- `[salt, name, value]` of a member, and `[salt, value]` of an element
abbrev pub salted_value : ℕ → Option Utf8 → Data → Data
salted_value n None v = array (item (string (salt n)) (item v no_items))
salted_value n (Some k) v = array (item (string (salt n)) (item (string k) (item v no_items)))

-- the base64url of its compact JSON
abbrev pub disclosure_text : ℕ → Option Utf8 → Data → Utf8
disclosure_text n name v = url64_of (compact_text (salted_value n name v))

-- the digests of such disclosures, by SHA-256
abbrev pub by_sha256 : Digests
by_sha256 = λ n name v. digest_of Sha256 (disclosure_text n name v)

abbrev pub text_of : Numbered → Utf8
text_of p = disclosure_text p.0 p.1.name p.1.value

-- the texts of all disclosures of a value, in the order of their numbers
abbrev pub disclosure_texts : Marks → Data → List Utf8
disclosure_texts m d = map text_of (by_number (met by_sha256 m d))

-- a disclosure's number, its digest and its text
abbrev pub told : Numbered → ℕ × Utf8 × Utf8
told p = (p.0, p.1.digest, text_of p)

abbrev pub all_told : List Numbered → List (ℕ × Utf8 × Utf8)
all_told ps = map told ps

-- the disclosure with this number, of a member of this name or of an element, with this value
abbrev pub written_as : ℕ → Option Utf8 → Data → Numbered
written_as n name v = (n, record { digest = by_sha256 n name v; name = name; value = v })

-- The text of a disclosure says what is disclosed. JSON is read within 127 levels, of which the disclosure's
-- own list is one.
abbrev pub IsReadBack : Numbered → Type 0
IsReadBack p = depth p.1.value ≤ 126 → disclosed Sha256 (text_of p) ≡ Some p.1
