-- The facts of an SD-JWT VC, read from its payload as signed and never from a disclosure (RFC 7519, section
-- 4.1; RFC 7800, section 3.2; SD-JWT VC, section 3.2.2).
use Rattle.std.specs.Prelude.{ℕ, Bool, not, ◌&&◌, ◌||◌, List, [], ◌∷◌, codes, Option, option_map}
use Rattle.std.specs.Prelude.{option_and_then, is_some, is_none, unwrap_or}
use Rattle.serde_json.specs.Data.{Data}
use Rattle.serde_json.specs.Find.{get, as_number, as_u64}
use Rattle.serde_json.specs.Written.{has_float}
use Rattle.jws_envelope.specs.KeyNames.{jwk_name}
use Rattle.json_forms.specs.Look.{text_at, is_wrong, is_object}
use Rattle.base_forms.specs.Rules.{rule, first}

-- an integer from 0: a second, counted from 1970-01-01T00:00:00Z
abbrev pub moment_of : Data → Option ℕ
moment_of d = option_and_then as_u64 (as_number d)

abbrev pub is_moment : Data → Bool
is_moment d = is_some (moment_of d)

abbrev pub moment_at : List ℕ → Data → Option ℕ
moment_at k payload = option_and_then moment_of (get k payload)

-- a JWK in which every number is an integer, so that its compact JSON names the key
abbrev pub is_key : Data → Bool
is_key jwk = is_object jwk && not (has_float jwk)

abbrev pub is_holder : Data → Bool
is_holder cnf = is_object cnf && not (is_wrong is_key (get (codes "jwk") cnf))

-- rules 15 to 17: no type; a date that is no such integer; a `cnf` that is no object, or whose `jwk` is no
-- key
unfoldable pub facts_rule : Data → Option ℕ
facts_rule payload = first
    (rule 15 (is_none (text_at (codes "vct") payload))
    ∷ rule 16 (is_wrong is_moment (get (codes "nbf") payload) || is_wrong is_moment
    (get (codes "exp") payload))
    ∷ rule 17 (is_wrong is_holder (get (codes "cnf") payload))
    ∷ [])

-- the holder's name, where the payload names a key
abbrev pub holder_of : Data → Option (List ℕ)
holder_of payload = option_map jwk_name (option_and_then (get (codes "jwk")) (get (codes "cnf") payload))

abbrev pub kind_of : Data → List ℕ
kind_of payload = unwrap_or (text_at (codes "vct") payload) []

abbrev pub first_of : Data → ℕ
first_of payload = unwrap_or (moment_at (codes "nbf") payload) 0

abbrev pub past_of : Data → Option ℕ
past_of payload = moment_at (codes "exp") payload
