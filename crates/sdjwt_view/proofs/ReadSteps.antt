-- Reading, step by step.
use Rattle.std.proofs.Common.{◌≡◌, ℕ, true, option_map, List, [], ◌∷◌, map, Option, Some, None, Result, Ok}
use Rattle.std.proofs.Common.{Err, refl, sym, ap, ◌∙◌, subst}
use Rattle.std.specs.Prelude.{IfOk, IfErr, IfSome, unwrap_or}
use Rattle.serde_json.specs.Data.{Data, null}
use Rattle.base_forms.specs.Rules.{unless_broken}
use Rattle.json_forms.specs.Text.{json_of}
use Rattle.jws_envelope.specs.Compact.{dot_parts}
use Rattle.jws_envelope.specs.Envelope.{Envelope, envelope_of, jws_rule, jws_of}
use Rattle.claim_tree.specs.Tree.{RecordOf, is_claim}
use Rattle.base_forms.specs.Texts.{Utf8}
use Rattle.sdjwt_view.specs.Reading.{pieces, parts_of, inner_rule, refused, envelope, either_rule}
use Rattle.sdjwt_view.specs.Reading.{refusal_of_parts, refusal_of, content_from, content_in, credential_in}
use Rattle.sdjwt_view.specs.Reading.{Content}
use Rattle.sdjwt_view.specs.Refusal.{IsRefusal}
use Rattle.sdjwt_view.specs.code.Refusal.{IsInnerRefusal}
use Rattle.sdjwt_digests.specs.Disclosure.{said}
use Rattle.claim_tree.specs.Parts.{Named, members_of}
use Rattle.sdjwt_disclosures.specs.DisclosedTree.{spelled_payload}
use Rattle.sdjwt_digests.specs.declared.disclosure.Disclosure.{Disclosure}
use Rattle.sdjwt_view.specs.declared.error.Error.{Error}
use Rattle.sdjwt_view.specs.declared.error.Error.TheVariants.{Refused, Envelope as EnvelopeError, NoMemory}
use Rattle.jws_envelope.specs.declared.error.Error as theirs
use Rattle.jws_envelope.specs.declared.error.Error.TheVariants as their
use Rattle.jws_envelope.specs.Refusal.{IsRefusal as TheirRefusal}
use Rattle.sdjwt_view.specs.code.EnvelopeError.{of_envelope}
use Rattle.sdjwt_disclosures.proofs.Claims.{IsSound, AreSound, payload_claim}
use Rattle.sdjwt_digests.proofs.ValueClaims.{json_claim}

pub no_parts : (t : Utf8) → parts_of (pieces t) ≡ None → refusal_of t ≡ Some (refused 1)
unfolding refusal_of
no_parts t e = ap refusal_of_parts e

jws_refused : (t j : Utf8) (ts : List Utf8) (n : ℕ) → parts_of (pieces t) ≡ Some (j, ts) → jws_rule j ≡ Some n
    → refusal_of t ≡ Some (envelope n)
unfolding refusal_of
jws_refused t j ts n e h =
    ap refusal_of_parts e ∙ ap (λ o. either_rule o (inner_rule (envelope_of (dot_parts j)) ts)) h

pub jws_error : (t j : Utf8) (ts : List Utf8) (error : theirs.Error) → parts_of (pieces t) ≡ Some (j, ts)
    → TheirRefusal (jws_rule j) error → IsRefusal (refusal_of t) (of_envelope error)
jws_error t j ts (their.Refused n) p h = jws_refused t j ts n p h
jws_error t j ts their.NoMemory p h = tt

not_broken : {A : Type 0} (o : Option ℕ) (x y : A) → unless_broken o x ≡ Ok y → (o ≡ None) × (x ≡ y)
not_broken None x y e = (refl, cc)
not_broken (Some n) x y e = absurd (cc)

pub past_jws : (t j : Utf8) (ts : List Utf8) (e : Envelope) → parts_of (pieces t) ≡ Some (j, ts)
    → jws_of j ≡ Ok e → refusal_of t ≡ either_rule None (inner_rule e ts)
unfolding refusal_of
past_jws t j ts e p h =
    let both = not_broken (jws_rule j) (envelope_of (dot_parts j)) e h in
    ap refusal_of_parts p ∙ ap (λ o. either_rule o (inner_rule (envelope_of (dot_parts j)) ts)) both.0
    ∙ ap (λ x. either_rule None (inner_rule x ts)) both.1

pub said_in : (t j : Utf8) (ts : List Utf8) (e : Envelope) → parts_of (pieces t) ≡ Some (j, ts)
    → jws_of j ≡ Ok e → content_in t ≡ Some (content_from e ts)
unfolding content_in
said_in t j ts e p h =
    let both = not_broken (jws_rule j) (envelope_of (dot_parts j)) e h in
    ap (option_map (λ p. content_from (envelope_of (dot_parts p.0)) p.1)) p
    ∙ ap (λ x. Some (content_from x ts)) both.1

-- the two above over equal texts
pub rule_past : (t j : Utf8) (ts us : List Utf8) (e : Envelope) → parts_of (pieces t) ≡ Some (j, ts) → us ≡ ts
    → jws_of j ≡ Ok e → refusal_of t ≡ either_rule None (inner_rule e us)
rule_past t j ts us e p same h =
    past_jws t j ts e p h ∙ ap (λ x. either_rule None (inner_rule e x)) (sym same)

pub said_past : (t j : Utf8) (ts us : List Utf8) (e : Envelope) → parts_of (pieces t) ≡ Some (j, ts) → us ≡ ts
    → jws_of j ≡ Ok e → content_in t ≡ Some (content_from e us)
said_past t j ts us e p same h = said_in t j ts e p h ∙ ap (λ x. Some (content_from e x)) (sym same)

pub inner_refusal : (t : Utf8) (broken : Option ℕ) (error : Error) → refusal_of t ≡ either_rule None broken
    → IsInnerRefusal broken error → IsRefusal (refusal_of t) error
inner_refusal t broken (Refused n) e h = e ∙ ap (either_rule None) h
inner_refusal t broken (EnvelopeError n) e h = absurd h
inner_refusal t broken NoMemory e h = tt

pub in_ok : {A E : Type 0} (r : Result A E) (P Q : A → Type 0) → ((a : A) → P a → Q a) → IfOk r P → IfOk r Q
in_ok (Ok a) P Q f h = f a h
in_ok (Err e) P Q f h = tt

pub in_err : {A E : Type 0} (r : Result A E) (P Q : E → Type 0) → ((e : E) → P e → Q e) → IfErr r P
    → IfErr r Q
in_err (Ok a) P Q f h = tt
in_err (Err e) P Q f h = f e h

json_sound : (bytes : List ℕ) (o : Option Data) → json_of bytes ≡ o → IsSound (unwrap_or o null)
json_sound bytes None e = refl
json_sound bytes (Some d) e = json_claim bytes d e

pub envelope_sound : (j : Utf8) → IsSound (envelope_of (dot_parts j)).payload
envelope_sound j = json_sound _ _ refl

pub payload_sound : (j : Utf8) (e : Envelope) → jws_of j ≡ Ok e → IsSound e.payload
payload_sound j e h =
    let both = not_broken (jws_rule j) (envelope_of (dot_parts j)) e h in
    subst (λ (x : Envelope). IsSound x.payload) both.1 (envelope_sound j)

pub all_sound : (ds : List Disclosure) → AreSound (map said ds)
all_sound [] = tt
all_sound (d ∷ ds) = (d.sound, all_sound ds)

pub spelled_claim : (payload : Data) (ds : List Disclosure) (ns : List Named) → IsSound payload
    → spelled_payload (map said ds) payload ≡ Some ns → is_claim (RecordOf (members_of ns)) ≡ true
spelled_claim payload ds ns h e =
    subst (λ o. IfSome o (λ ms. is_claim (RecordOf (members_of ms)) ≡ true)) e
    (payload_claim (map said ds) payload (all_sound ds) h)

pub credential_said : (t : Utf8) (c : Content) → content_in t ≡ Some c → credential_in t ≡ Some c.credential
unfolding credential_in
credential_said t c e = ap (option_map (λ (x : Content). x.credential)) e
