-- Disclosures: what a holder may leave out of an SD-JWT, each named by its digest (RFC 9901, sections 4.2.1
-- to 4.2.3).
use Rattle.std.specs.Prelude.{List, [], ◌∷◌, Option, Some, None, option_map, option_and_then, if◌then◌else◌}
use Rattle.std.specs.Str.{bytes_eq}
use Rattle.serde_json.specs.Data.{Data}
use Rattle.serde_json.specs.Find.{as_str}
use Rattle.base_forms.specs.Texts.{Utf8}
use Rattle.json_forms.specs.Look.{elements_of, is_text}
use Rattle.json_forms.specs.Text.{json_of}
use Rattle.base_forms.specs.Url64.{url64_of, url64_bytes}
use Rattle.base_forms.specs.Hash.{digest_by}
use Rattle.base_forms.specs.declared.hash.HashName.{HashName}

-- A disclosure with a name is that of an object's member, and one without is that of a list's element.
pub record Disclosed : Type 0 where
  pub digest : Utf8
  pub name : Option Utf8
  pub value : Data

-- the name and the value of `[salt, name, value]`, or the value of `[salt, value]`; salt and name are strings
abbrev pub salted : List Data → Option (Option Utf8 × Data)
salted (salt ∷ value ∷ []) = if is_text salt then Some (None, value) else None
salted (salt ∷ name ∷ value ∷ []) =
    if is_text salt then option_map (λ k. (Some k, value)) (as_str name) else None
salted _ = None

-- the JSON value of which a text is the base64url
abbrev pub json_in : Utf8 → Option Data
json_in text = option_and_then json_of (url64_bytes text)

-- base64url of the hash over the ASCII of the disclosure's text, as it stands in the SD-JWT
abbrev pub digest_of : HashName → Utf8 → Utf8
digest_of hash text = url64_of (digest_by hash text)

-- what a disclosure's text says, and none where it has another form
abbrev pub disclosed : HashName → Utf8 → Option Disclosed
disclosed hash text = option_map (λ p. record { digest = digest_of hash text; name = p.0; value = p.1 })
    (option_and_then (λ d. salted (elements_of d)) (json_in text))

-- what all the texts say, and none where one has another form
abbrev pub all_disclosed : HashName → List Utf8 → Option (List Disclosed)
all_disclosed hash [] = Some []
all_disclosed hash (t ∷ ts) =
    option_and_then (λ d. option_map (λ ds. d ∷ ds) (all_disclosed hash ts)) (disclosed hash t)

-- the first disclosure that has a digest
abbrev pub found : Utf8 → List Disclosed → Option Disclosed
found x [] = None
found x (d ∷ ds) = if bytes_eq d.digest x then Some d else found x ds
