-- Names of keys, written from their parts: an issuer (RFC 7519, section 4.1.1) and its key's identifier (RFC
-- 7515, section 4.1.4), or a JSON Web Key (RFC 7517, section 4).
use Rattle.std.specs.Prelude.{◌++◌, codes}
use Rattle.serde_json.specs.Data.{Data, string, array, no_items, item}
use Rattle.serde_json.specs.Written.{compact_text}
use Rattle.jws_envelope.specs.Compact.{Text}

-- `kid:` and the compact JSON list of the issuer and the key's identifier
abbrev pub kid_name : Text → Text → Text
kid_name issuer key = codes "kid:" ++ compact_text (array (item (string issuer) (item (string key) no_items)))

-- `jwk:` and the compact JSON of the key
abbrev pub jwk_name : Data → Text
jwk_name jwk = codes "jwk:" ++ compact_text jwk
