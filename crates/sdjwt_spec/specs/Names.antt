-- The names of keys that the spec of a test credential gives: `kid:` with an issuer (RFC 7519, section 4.1.1)
-- and its key's identifier (RFC 7515, section 4.1.4), and `jwk:` with a JSON Web Key (RFC 7517, section 4).
-- A name says its parts where it is spelled as the name of these parts is written.
use Rattle.std.specs.Prelude.{ℕ, ◌==◌, ◌&&◌, length, Option, Some, None, option_and_then}
use Rattle.std.specs.Prelude.{if◌then◌else◌}
use Rattle.std.specs.Option.{option_zip}
use Rattle.std.specs.Str.{bytes_eq}
use Rattle.serde_json.specs.Data.{Data}
use Rattle.serde_json.specs.Find.{at, as_str}
use Rattle.base_forms.specs.Texts.{Utf8}
use Rattle.json_forms.specs.Look.{elements_of}
use Rattle.json_forms.specs.Text.{json_of}
use Rattle.jws_envelope.specs.KeyNames.{kid_name, jwk_name}
use Rattle.spec_forms.specs.KeyNames.{after_colon}
use Rattle.sdjwt_facts.specs.Facts.{is_key}

-- the JSON value after the first colon
abbrev pub value_in : Utf8 → Option Data
value_in name = json_of (after_colon name)

-- ---- `kid:`

-- the string at a place of a list
abbrev pub text_in : ℕ → Data → Option Utf8
text_in i d = option_and_then as_str (at i d)

-- a list of two strings
abbrev pub two_texts : Data → Option (Utf8 × Utf8)
two_texts d = if length (elements_of d) == 2 then option_zip (text_in 0 d) (text_in 1 d) else None

abbrev pub if_kid_name : Utf8 → Utf8 × Utf8 → Option (Utf8 × Utf8)
if_kid_name name p = if bytes_eq name (kid_name p.0 p.1) then Some p else None

-- the issuer, and the identifier of its key
abbrev pub kid_parts : Utf8 → Option (Utf8 × Utf8)
kid_parts name = option_and_then (if_kid_name name) (option_and_then two_texts (value_in name))

-- ---- `jwk:`

abbrev pub if_jwk_name : Utf8 → Data → Option Data
if_jwk_name name jwk = if is_key jwk && bytes_eq name (jwk_name jwk) then Some jwk else None

-- the key
abbrev pub jwk_in : Utf8 → Option Data
jwk_in name = option_and_then (if_jwk_name name) (value_in name)
