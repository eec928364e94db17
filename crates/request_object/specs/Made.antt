-- The request object that a site makes for a wallet that is found without its metadata (RFC 9101, section 4;
-- OpenID4VP 1.0, sections 5, 5.8 and 8.2), and that it is read as what the site asked.
use Rattle.std.specs.Prelude.{◌≡◌, ◌≤◌, ℕ, true, false, List, codes, Some, None, Ok}
use Rattle.serde_json.specs.Data.{Data, string, object, no_members, member, depth}
use Rattle.claim_tree.specs.Credential.{jose}
use Rattle.claim_tree.specs.SignAlg.{jose_name}
use Rattle.claim_tree.specs.declared.algorithm.SignAlg.{SignAlg}
use Rattle.jws_envelope.specs.Compact.{Text}
use Rattle.jws_envelope.specs.Draft.{header_of, input_of, message_of, meant}
use Rattle.jws_envelope.specs.Envelope.{jws_of}
use Rattle.dcql_rules.specs.Rules.{query_rule}
use Rattle.dcql_query.specs.Meaning.{meaning_of}
use Rattle.key_device.specs.Calls.{Judges}
use Rattle.key_device.specs.Device.{OnlyAdds}
use Rattle.runs.specs.Runs.{value, Runs}
use Rattle.runs.specs.Tree.{Tree, gives, needs, sign}
use Rattle.runs.specs.World.{World}
use Rattle.request_clients.specs.Clients.{Client, key_of}
use Rattle.request_content.specs.Content.{wallet, is_nonce, is_address}
use Rattle.request_content.specs.declared.error.RequestRule.{RequestRule}
use Rattle.request_object.specs.Front.{object_type, is_no_client}
use Rattle.request_object.specs.Request.{Request, request_of}

-- what a site asks: its client identifier, the query as JSON, the nonce, where the response is to be posted,
-- and the state that the response has to carry
pub record Asking : Type 0 where
  pub client : Text
  pub query : Data
  pub nonce : Text
  pub uri : Text
  pub state : Text

-- ---- the object

-- the parameters, in the byte order of their names
abbrev pub payload_of : Asking → Data
payload_of a = object
    (member (codes "aud") (string wallet)
    (member (codes "client_id") (string a.client)
    (member (codes "dcql_query") a.query
    (member (codes "nonce") (string a.nonce)
    (member (codes "response_mode") (string (codes "direct_post"))
    (member (codes "response_type") (string (codes "vp_token"))
    (member (codes "response_uri") (string a.uri)
    (member (codes "state") (string a.state) no_members))))))))

-- `alg` and `typ`
abbrev pub header_by : SignAlg → Data
header_by alg = header_of alg object_type None

-- what is signed
abbrev pub input_by : SignAlg → Asking → Text
input_by alg a = input_of (header_by alg) (payload_of a)

-- the object with its signature
abbrev pub object_by : SignAlg → Asking → List ℕ → Text
object_by alg a signature = message_of (input_by alg a) signature

-- The device is asked once, to sign this by the key of this name.
abbrev pub signed_tree : Text → Text → Tree RequestRule Text
signed_tree name input = needs (sign name input) (λ signature. gives (message_of input signature))

-- the key has this algorithm
abbrev pub made_tree : SignAlg → Text → Asking → Tree RequestRule Text
made_tree alg name a = signed_tree name (input_by alg a)

-- ---- what it is read as

-- the request that is meant
abbrev pub meant_by : Asking → Request
meant_by a = record {
  query = meaning_of a.query;
  client = a.client;
  nonce = a.nonce;
  uri = a.uri;
  state = Some a.state;
}

-- The site is one of these clients, with the key of this name and no prefix that no signed request may have.
-- Its response address and its nonce break no rule.
pub record MayAsk (clients : List Client) (name : Text) (a : Asking) : Type 0 where
  pub is_client : is_no_client clients a.client ≡ false
  pub key : key_of clients a.client ≡ Some name
  pub address : is_address a.uri ≡ true
  pub nonce : is_nonce a.nonce ≡ true

-- the object is a signed message that says what was meant
abbrev pub Says : SignAlg → Asking → List ℕ → Type 0
Says alg a signature = jws_of (object_by alg a signature)
    ≡ Ok (meant (header_by alg) (payload_of a) (input_by alg a) signature)

-- With any signature that is judged yes under the site's key the object is read as what the site asked.
abbrev pub MadeIsAsked : Type 0
MadeIsAsked = (alg : SignAlg) (name : Text) (a : Asking) (signature : List ℕ) (clients : List Client)
    (judged : Judges)
    → MayAsk clients name a → query_rule a.query ≡ None → Says alg a signature
    → judged name (jose (jose_name alg)) (input_by alg a) signature ≡ true
    → request_of judged clients (object_by alg a signature) ≡ Ok (meant_by a)

-- Where a run makes a text, that is the object with a signature that the device, as it is left, judges yes
-- under the site's key.
abbrev pub MadeIsSigned : Type 0
MadeIsSigned = (alg : SignAlg) (name : Text) (a : Asking) (before after : World) (text : Text)
    → Runs (made_tree alg name a) before after (value text) → before.device.held name ≡ Some alg
    → (signature : List ℕ) × (text ≡ object_by alg a signature)
    × (after.device.judged name (jose (jose_name alg)) (input_by alg a) signature ≡ true)

-- the levels that the query of an object may have, which is itself an object of at most 127
abbrev pub most_levels : ℕ
most_levels = 126

-- A text that was made is read as what the site asked, by whoever judges yes all that this device does.
abbrev pub IsReadAsAsked : Text → Asking → Judges → Text → Type 0
IsReadAsAsked name a known text =
    depth a.query ≤ most_levels → (clients : List Client) (judged : Judges) → OnlyAdds known judged
    → MayAsk clients name a → request_of judged clients text ≡ Ok (meant_by a)
