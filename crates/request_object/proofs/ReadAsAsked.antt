-- The request object that a site makes is read as what the site asked.
use Rattle.std.proofs.Common.{◌≡◌, ◌≤◌, ◌∙◌, ℕ, Bool, true, false, List, [], ◌∷◌, Option, Some, None}
use Rattle.std.proofs.Common.{refl, sym, ap, ap₂, subst, option_map, if◌then◌else◌, arith, inl, inr}
use Rattle.std.specs.Prelude.{Result, Ok, Err, IfOk, unwrap_or, IsSomeAnd, String, string_bytes}
use Rattle.std.specs.declared.alloc.Global.{Global}
use Rattle.serde_json.specs.Data.{Data, depth}
use Rattle.serde_json.specs.Read.{max_depth}
use Rattle.claim_tree.specs.Credential.{jose}
use Rattle.claim_tree.specs.SignAlg.{jose_name}
use Rattle.claim_tree.specs.declared.algorithm.SignAlg.{SignAlg}
use Rattle.base_forms.specs.Rules.{first, rule, unless_broken}
use Rattle.jws_envelope.specs.Compact.{Text, dot_parts}
use Rattle.jws_envelope.specs.Draft.{meant, IsReadAs}
use Rattle.json_forms.specs.Look.{is_object}
use Rattle.jws_envelope.specs.Envelope.{Envelope, envelope_of, jws_rule, jws_of}
use Rattle.dcql_rules.specs.Rules.{query_rule}
use Rattle.dcql_query.specs.Query.{Query}
use Rattle.key_device.specs.Calls.{Held, Judges}
use Rattle.key_device.specs.Device.{DeviceState, IsGenuine, IsYes}
use Rattle.runs.specs.Runs.{Runs}
use Rattle.runs.specs.World.{World}
use Rattle.request_clients.specs.Clients.{Client}
use Rattle.request_links.specs.Link.{Link, is_link, parameters_rule, link_of}
use Rattle.request_content.specs.Content.{response_rule, session_rule, content_rule}
use Rattle.request_content.specs.Rules.{number, within}
use Rattle.request_content.specs.declared.error.RequestRule.{RequestRule}
use Rattle.request_content.proofs.Contents.{query_rule_is}
use Rattle.request_object.specs.Front.{envelope, client_rule, object_rule}
use Rattle.request_object.specs.Made.{Asking, payload_of, header_by, input_by, object_by, meant_by, MayAsk}
use Rattle.request_object.specs.Made.{MadeIsAsked, MadeIsSigned, most_levels, IsReadAsAsked}
use Rattle.request_object.specs.Request.{Request, asked_by, is_signed, later_rule, request_of}
use Rattle.request_object.specs.code.Signed.{IsSignedText}
use Rattle.request_object.specs.declared.error.Error.{Error}
use Rattle.request_object.proofs.NoLink.{message_is_no_link}
use Rattle.request_object.proofs.Trees.{later_yes, same_front, whole_parts}

-- ---- the rules of what is made

module _ (clients : List Client) (name : Text) (a : Asking) (may : MayAsk clients name a)
    (valid : query_rule a.query ≡ None) where
  unbroken_client : (alg : SignAlg) (input signature : Text)
      → client_rule clients None (meant (header_by alg) (payload_of a) input signature) ≡ None
  unfolding rule
  unbroken_client alg input signature = rw may.is_client refl

  unbroken_response : response_rule (payload_of a) ≡ None
  unfolding rule
  unbroken_response = refl

  unbroken_session : session_rule (payload_of a) ≡ None
  unfolding rule
  unbroken_session = rw may.nonce refl

  unbroken_content : content_rule (payload_of a) ≡ None
  unbroken_content = query_rule_is _ _ _ _ unbroken_response may.address unbroken_session
      ∙ ap (within 21) valid

  unbroken_later : later_rule true (payload_of a) ≡ None
  unbroken_later = later_yes (payload_of a) ∙ unbroken_content

  signed : (judged : Judges) (alg : SignAlg) (input signature : Text)
      → judged name (jose (jose_name alg)) input signature ≡ true
      → is_signed judged clients (meant (header_by alg) (payload_of a) input signature) ≡ true
  signed judged alg input signature is_yes = ap (λ (key : Option Text).
      judged (unwrap_or key []) (jose (jose_name alg)) input signature) may.key ∙ is_yes

-- ---- a text that is no link

-- what is read of an object, by the first of its rules that is broken and by what it says
abbrev read_by : Judges → List Client → Option RequestRule → Envelope → Result Request RequestRule
read_by judged clients broken e = unless_broken
    (first (first (broken ∷ []) ∷ later_rule (is_signed judged clients e) e.payload ∷ []))
    (asked_by e.payload)

by_link : Judges → List Client → Bool → Option ℕ → Link → Text → Result Request RequestRule
by_link judged clients is broken l text =
    let object = if is then l.object else text in
    unless_broken
    (first (first (option_map (λ n. number n) (if is then broken else None)
    ∷ object_rule clients (if is then Some l.client else None) object ∷ [])
    ∷ later_rule (is_signed judged clients (envelope object)) (envelope object).payload ∷ []))
    (asked_by (envelope object).payload)

link_is : (judged : Judges) (clients : List Client) (text : Text) → request_of judged clients text
    ≡ by_link judged clients (is_link text) (parameters_rule text) (link_of text) text
unfolding by_link
link_is judged clients text = refl

no_link : (judged : Judges) (clients : List Client) (broken : Option ℕ) (l : Link) (text : Text)
    → by_link judged clients false broken l text
    ≡ read_by judged clients (object_rule clients None text) (envelope text)
unfolding by_link
no_link judged clients broken l text = refl

read_plain : (judged : Judges) (clients : List Client) (text : Text) → is_link text ≡ false
    → request_of judged clients text ≡ read_by judged clients (object_rule clients None text) (envelope text)
read_plain judged clients text plain =
    link_is judged clients text
    ∙ ap (λ (b : Bool). by_link judged clients b (parameters_rule text) (link_of text) text) plain
    ∙ no_link judged clients (parameters_rule text) (link_of text) text

-- ---- the law

read_whole : (judged : Judges) (clients : List Client) (e : Envelope) → is_signed judged clients e ≡ true
    → later_rule true e.payload ≡ None → read_by judged clients None e ≡ Ok (asked_by e.payload)
read_whole judged clients e is none =
    ap (λ (b : Bool). unless_broken (first (later_rule b e.payload ∷ [])) (asked_by e.payload)) is
    ∙ ap (λ (r : Option RequestRule). unless_broken (first (r ∷ [])) (asked_by e.payload)) none

-- what says this with a signature that is judged yes is read as what the site asked
pub read_as_asked : (clients : List Client) (name : Text) (a : Asking) (may : MayAsk clients name a)
    (valid : query_rule a.query ≡ None) (judged : Judges) (alg : SignAlg) (input signature text : Text)
    → jws_of text ≡ Ok (meant (header_by alg) (payload_of a) input signature)
    → judged name (jose (jose_name alg)) input signature ≡ true
    → request_of judged clients text ≡ Ok (meant_by a)
read_as_asked clients name a may valid judged alg input signature text says is_yes =
    let e : Envelope = meant (header_by alg) (payload_of a) input signature in
    let both = whole_parts (jws_rule text) (envelope_of (dot_parts text)) e says in
    read_plain judged clients text (message_is_no_link text both.0)
    ∙ ap₂ (λ (r : Option RequestRule) (m : Envelope). read_by judged clients r m)
    (same_front clients None text e says ∙ unbroken_client clients name a may valid alg input signature)
    both.1
    ∙ read_whole judged clients e (signed clients name a may valid judged alg input signature is_yes)
    (unbroken_later clients name a may valid)

pub made_is_asked : MadeIsAsked
made_is_asked alg name a signature clients judged may valid says is_yes =
    read_as_asked clients name a may valid judged alg (input_by alg a) signature (object_by alg a signature)
    says is_yes

-- ---- what is written

pub payload_depth : (a : Asking) → depth a.query ≤ most_levels → depth (payload_of a) ≤ max_depth
payload_depth a few = omega arith

pub query_valid : (broken : Option ℕ) (meaning q : Query) → unless_broken broken meaning ≡ Ok q
    → broken ≡ None
query_valid None meaning q read = refl
query_valid (Some n) meaning q read = absurd (cc read)

-- a signature that is genuine under a key of this algorithm is judged yes
yes_of : (held : Option SignAlg) (judged : Judges) (alg : SignAlg) (name input signature : Text)
    → held ≡ Some alg → IsSomeAnd held (λ own. IsYes judged name own input signature)
    → judged name (jose (jose_name alg)) input signature ≡ true
yes_of None judged alg name input signature is genuine = absurd genuine
yes_of (Some own) judged alg name input signature is genuine =
    let same : own ≡ alg = cc is in
    subst (λ (x : SignAlg). judged name (jose (jose_name x)) input signature ≡ true) same genuine.in_jws

signed_yes : (alg : SignAlg) (name : Text) (a : Asking) (before mid after : World) (new : DeviceState)
    (signature : Text)
    → before.device.held name ≡ Some alg → mid ≡ record before { device = new } → after ≡ mid
    → IsGenuine before.device.held new.judged name (input_by alg a) signature
    → after.device.judged name (jose (jose_name alg)) (input_by alg a) signature ≡ true
signed_yes alg name a before mid after new signature held is same genuine =
    ap (λ (w : World). w.device.judged name (jose (jose_name alg)) (input_by alg a) signature) (same ∙ is)
    ∙ yes_of (before.device.held name) new.judged alg name (input_by alg a) signature held genuine

pub made_is_signed : MadeIsSigned
unfolding Runs
made_is_signed alg name a before after text (inl (signature, mid, (new, is, signed), ends)) held = (
  signature,
  ends.1,
  signed_yes alg name a before mid after new signature held is ends.0 signed.signed,
)
made_is_signed alg name a before after text (inr (inl faulted)) held = absurd faulted.1
made_is_signed alg name a before after text (inr (inr given_up)) held = absurd given_up.1

-- ---- what is made

-- what was signed is read as what the site asked
pub signed_read : (held : Held) (known : Judges) (alg : SignAlg) (name : Text) (a : Asking) (payload : Data)
    (input text : Text)
    → payload ≡ payload_of a → query_rule a.query ≡ None → Some alg ≡ held name
    → (is_object payload ≡ true → depth payload ≤ max_depth → IsReadAs (header_by alg) payload input)
    → IsSignedText held known name input text
    → IsReadAsAsked name a known text
signed_read held known alg name a payload input text same valid is read made few clients judged adds may =
    let back : is_object (payload_of a) ≡ true → depth (payload_of a) ≤ max_depth
    → IsReadAs (header_by alg) (payload_of a) input =
    subst (λ (d : Data). is_object d ≡ true → depth d ≤ max_depth
    → IsReadAs (header_by alg) d input) same read in
    let s = made (header_by alg) (payload_of a) (back refl (payload_depth a few)) in
    read_as_asked clients name a may valid judged alg input s.signature text s.says
    (adds name (jose (jose_name alg)) input s.signature
    (yes_of (held name) known alg name input s.signature (sym is) s.genuine))

pub text_read : (held : Held) (known : Judges) (alg : SignAlg) (name : Text) (a : Asking) (payload : Data)
    (input : Text) (made : Result (String Global) Error)
    → payload ≡ payload_of a → query_rule a.query ≡ None → Some alg ≡ held name
    → (is_object payload ≡ true → depth payload ≤ max_depth → IsReadAs (header_by alg) payload input)
    → IfOk made (λ text. IsSignedText held known name input (string_bytes text))
    → IfOk made (λ text. IsReadAsAsked name a known (string_bytes text))
text_read held known alg name a payload input (Ok text) same valid is read signed =
    signed_read held known alg name a payload input (string_bytes text) same valid is read signed
text_read held known alg name a payload input (Err error) same valid is read signed = tt
