-- Signed requests (RFC 9101; OpenID4VP 1.0, section 5): the first rule that a text breaks, what it asks where
-- it breaks none, and how a device is asked about its signature between the rules.
use Rattle.std.specs.Prelude.{not, Bool, List, [], ◌∷◌, codes, Option, unwrap_or, Result}
use Rattle.serde_json.specs.Data.{Data}
use Rattle.base_forms.specs.Rules.{rule, first, unless_broken}
use Rattle.json_forms.specs.Look.{text_at}
use Rattle.jws_envelope.specs.Compact.{Text}
use Rattle.jws_envelope.specs.Envelope.{Envelope}
use Rattle.jws_envelope.specs.Seal.{jws_seal}
use Rattle.dcql_query.specs.Query.{Query}
use Rattle.dcql_query.specs.Meaning.{meaning_of}
use Rattle.key_device.specs.Calls.{Judges}
use Rattle.runs.specs.Tree.{Tree, gives, needs, judge, unless}
use Rattle.request_clients.specs.Clients.{Client, key_of}
use Rattle.request_content.specs.Content.{content_rule, query_in}
use Rattle.request_object.specs.Front.{object_of, envelope, text_of, client_of, front_rule}
use Rattle.request_content.specs.Rules.{number}
use Rattle.request_content.specs.declared.error.RequestRule.{RequestRule}

-- what is asked, and the state that the response has to carry
pub record Request : Type 0 where
  pub query : Query
  pub client : Text
  pub nonce : Text
  pub uri : Text
  pub state : Option Text

-- what a payload asks, all of it inside the object
abbrev pub asked_by : Data → Request
asked_by payload = record {
  query = meaning_of (query_in payload);
  client = text_of (codes "client_id") payload;
  nonce = text_of (codes "nonce") payload;
  uri = text_of (codes "response_uri") payload;
  state = text_at (codes "state") payload;
}

-- ---- the judgement

-- the name of the key of the client that the message names
abbrev pub key_for : List Client → Envelope → Text
key_for clients e = unwrap_or (key_of clients (client_of e)) []

-- whether the signature is judged yes, under the client's key
abbrev pub is_signed : Judges → List Client → Envelope → Bool
is_signed judged clients e =
    judged (key_for clients e) (jws_seal e).algorithm (jws_seal e).message (jws_seal e).signature

-- rules 9 to 21, where this is what the device says of the signature
abbrev pub later_rule : Bool → Data → Option RequestRule
later_rule is_yes payload = first (rule (number 9) (not is_yes) ∷ content_rule payload ∷ [])

-- ---- the whole

-- the message of a text
abbrev pub message_of : Text → Envelope
message_of text = envelope (object_of text)

-- the first rule of 1 to 21 that a text breaks
abbrev pub request_rule : Judges → List Client → Text → Option RequestRule
request_rule judged clients text = first
    (front_rule clients text
    ∷ later_rule (is_signed judged clients (message_of text)) (message_of text).payload
    ∷ [])

-- what a text asks that breaks no rule, and else its first broken rule
abbrev pub request_of : Judges → List Client → Text → Result Request RequestRule
request_of judged clients text =
    unless_broken (request_rule judged clients text) (asked_by (message_of text).payload)

-- ---- asking a device

-- the device is asked about the signature of a message, and then the rules 9 to 21 are looked at
abbrev pub judged_tree : List Client → Envelope → Tree RequestRule Request
judged_tree clients e =
    needs (judge (key_for clients e) (jws_seal e).algorithm (jws_seal e).message (jws_seal e).signature)
    (λ is_yes. unless (later_rule is_yes e.payload) (gives (asked_by e.payload)))

-- The device is asked once, exactly where the rules 1 to 8 hold.
abbrev pub request_tree : List Client → Text → Tree RequestRule Request
request_tree clients text = unless (front_rule clients text) (judged_tree clients (message_of text))
