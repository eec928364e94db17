-- The rules of a signed request before its signature is judged (RFC 9101, sections 4 and 10.8; OpenID4VP 1.0,
-- sections 5.1 and 5.9): what text is the request object, whether it is a signed message of the type, and
-- which client it names.
use Rattle.std.specs.Prelude.{◌||◌, not, nat_eq, Bool, false, List, [], ◌∷◌, codes, Option, Some, None}
use Rattle.std.specs.Prelude.{option_map, unwrap_or, is_none, if◌then◌else◌}
use Rattle.std.specs.List.{starts_with}
use Rattle.std.specs.Option.{option_map_or}
use Rattle.std.specs.Str.{bytes_eq}
use Rattle.serde_json.specs.Data.{Data}
use Rattle.base_forms.specs.Rules.{rule, first}
use Rattle.json_forms.specs.Look.{text_at}
use Rattle.jws_envelope.specs.Compact.{Text, dot_parts}
use Rattle.jws_envelope.specs.Envelope.{Envelope, jws_rule, envelope_of}
use Rattle.request_clients.specs.Clients.{Client, key_of}
use Rattle.request_links.specs.Link.{is_link, link_rule, link_of}
use Rattle.request_content.specs.Rules.{number, within}
use Rattle.request_content.specs.declared.error.RequestRule.{RequestRule}

-- ---- the object

-- the request object: the text itself, or what a link carries
abbrev pub object_of : Text → Text
object_of text = if is_link text then (link_of text).object else text

-- the client's identifier outside the object, which a link has
abbrev pub outer_of : Text → Option Text
outer_of text = if is_link text then Some (link_of text).client else None

-- what the object says, whatever rules are broken
abbrev pub envelope : Text → Envelope
envelope object = envelope_of (dot_parts object)

-- ---- what it names

-- the text of this member, and the empty text where there is none
abbrev pub text_of : Text → Data → Text
text_of name payload = unwrap_or (text_at name payload) []

-- the client's identifier inside the object
abbrev pub client_of : Envelope → Text
client_of e = text_of (codes "client_id") e.payload

-- the type of a request object (RFC 9101, section 10.8)
abbrev pub object_type : Text
object_type = codes "oauth-authz-req+jwt"

abbrev pub has_type : Data → Bool
has_type header = option_map_or (λ text. bytes_eq text object_type) (text_at (codes "typ") header) false

-- there, and another than this text
abbrev pub differs : Option Text → Text → Bool
differs None text = false
differs (Some other) text = not (bytes_eq other text)

abbrev pub begins : Text → Text → Bool
begins front text = starts_with nat_eq text front

-- It has one of the prefixes that no signed request may have, or no client of this identifier is known.
abbrev pub is_no_client : List Client → Text → Bool
is_no_client clients id =
    begins (codes "redirect_uri:") id || (begins (codes "origin:") id || is_none (key_of clients id))

-- ---- the rules

-- 5 to 8, of what a signed message says; the client's identifier outside it is the one of the link
abbrev pub client_rule : List Client → Option Text → Envelope → Option RequestRule
client_rule clients outer e = first
    (rule (number 5) (not (has_type e.header))
    ∷ rule (number 6) (is_none (text_at (codes "client_id") e.payload))
    ∷ rule (number 7) (differs outer (client_of e))
    ∷ rule (number 8) (is_no_client clients (client_of e))
    ∷ [])

-- 4 to 8, of an object; within 4 is the rule of the signed message
abbrev pub object_rule : List Client → Option Text → Text → Option RequestRule
object_rule clients outer object =
    first (within 4 (jws_rule object) ∷ client_rule clients outer (envelope object) ∷ [])

-- 1 to 8, of a text
abbrev pub front_rule : List Client → Text → Option RequestRule
front_rule clients text = first
    (option_map (λ n. number n) (link_rule text)
    ∷ object_rule clients (outer_of text) (object_of text)
    ∷ [])
