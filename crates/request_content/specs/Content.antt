-- The rules of a request's parameters, which stand inside the object alone (OpenID4VP 1.0, sections 5.1, 5.2,
-- 5.8 and 8.2; RFC 9101, section 4; RFC 6749, section 4.1.1).
use Rattle.std.specs.Prelude.{ℕ, ◌==◌, ◌&&◌, ◌||◌, not, Bool, true, false, [], ◌∷◌, codes, Option, None}
use Rattle.std.specs.Prelude.{is_none, is_some, is_ok}
use Rattle.std.specs.List.{list_all, list_any}
use Rattle.std.specs.Option.{option_map_or}
use Rattle.std.specs.Str.{bytes_eq}
use Rattle.serde_json.specs.Data.{Data, null}
use Rattle.serde_json.specs.Find.{get, as_str}
use Rattle.base_forms.specs.Rules.{rule, first}
use Rattle.base_forms.specs.Url64.{is_url64}
use Rattle.json_forms.specs.Look.{text_at, elements_of, is_empty}
use Rattle.base_forms.specs.Texts.{Utf8}
use Rattle.dcql_rules.specs.Rules.{query_rule}
use Rattle.url.specs.Parser.{parse_url}
use Rattle.request_content.specs.Rules.{number, within}
use Rattle.request_content.specs.declared.error.RequestRule.{RequestRule}

abbrev pub has : Utf8 → Data → Bool
has name payload = is_some (get name payload)

-- the member of this name is this text
abbrev pub is_text_at : Utf8 → Utf8 → Data → Bool
is_text_at name text payload = option_map_or (λ t. bytes_eq t text) (text_at name payload) false

-- there, and no text
abbrev pub is_no_text : Utf8 → Data → Bool
is_no_text name payload = has name payload && is_none (text_at name payload)

-- a request stands inside the request, or a reference to one
abbrev pub has_request : Data → Bool
has_request payload = has (codes "request") payload || has (codes "request_uri") payload

-- ---- audience

-- the audience of a request to a wallet that is found without its metadata (section 5.8)
abbrev pub wallet : Utf8
wallet = codes "https://self-issued.me/v2"

abbrev pub is_wallet : Data → Bool
is_wallet d = option_map_or (λ t. bytes_eq t wallet) (as_str d) false

-- it is that text, or a list that has it
abbrev pub is_audience : Data → Bool
is_audience d = is_wallet d || list_any is_wallet (elements_of d)

-- where an audience is named, the wallet is one
abbrev pub is_for_wallet : Data → Bool
is_for_wallet payload = option_map_or is_audience (get (codes "aud") payload) true

-- ---- nonce and response address

-- a letter, a digit, `-`, `.`, `_` or `~` (RFC 3986, section 2.3)
abbrev pub is_unreserved : ℕ → Bool
is_unreserved byte = is_url64 byte || (byte == 46 || byte == 126)

abbrev pub is_nonce : Utf8 → Bool
is_nonce text = not (is_empty text) && list_all is_unreserved text

abbrev pub has_nonce : Data → Bool
has_nonce payload = option_map_or is_nonce (text_at (codes "nonce") payload) false

-- an absolute URL (URL Standard, section 4.4)
abbrev pub is_address : Utf8 → Bool
is_address text = is_ok (parse_url None text)

abbrev pub has_address : Data → Bool
has_address payload = option_map_or is_address (text_at (codes "response_uri") payload) false

-- ---- the rules

-- 10 to 14
abbrev pub response_rule : Data → Option RequestRule
response_rule payload = first
    (rule (number 10) (has_request payload)
    ∷ rule (number 11) (not (is_for_wallet payload))
    ∷ rule (number 12) (not (is_text_at (codes "response_type") (codes "vp_token") payload))
    ∷ rule (number 13) (not (is_text_at (codes "response_mode") (codes "direct_post") payload))
    ∷ rule (number 14) (has (codes "redirect_uri") payload)
    ∷ [])

-- 16 to 20
abbrev pub session_rule : Data → Option RequestRule
session_rule payload = first
    (rule (number 16) (not (has_nonce payload))
    ∷ rule (number 17) (is_no_text (codes "state") payload)
    ∷ rule (number 18) (has (codes "scope") payload)
    ∷ rule (number 19) (has (codes "transaction_data") payload)
    ∷ rule (number 20) (not (has (codes "dcql_query") payload))
    ∷ [])

-- the query as JSON, and null where there is none
abbrev pub query_in : Data → Data
query_in payload = option_map_or (λ d. d) (get (codes "dcql_query") payload) null

-- 10 to 21; within 21 is the rule of the query
abbrev pub content_rule : Data → Option RequestRule
content_rule payload = first
    (response_rule payload
    ∷ rule (number 15) (not (has_address payload))
    ∷ session_rule payload
    ∷ within 21 (query_rule (query_in payload))
    ∷ [])
