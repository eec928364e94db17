-- What is issued reads as what was meant.
use Rattle.std.proofs.Common.{◌≡◌, ◌≤◌, ℕ, true, List, [], ◌∷◌, length, map, codes, Option, Some, None}
use Rattle.std.proofs.Common.{option_map, option_and_then, refl, sym, ap, ◌∙◌, subst, arith}
use Rattle.std.specs.Prelude.{Ok, is_some}
use Rattle.std.specs.Option.{option_map_or}
use Rattle.std.specs.List.{AllByRecursion}
use Rattle.base64.specs.GeneralPurpose.{IsBytes}
use Rattle.serde_json.specs.Data.{Data, object, Members as Fields, depth}
use Rattle.serde_json.specs.Find.{as_str}
use Rattle.base_forms.specs.Hash.{hash_named}
use Rattle.base_forms.specs.Rules.{unless_broken}
use Rattle.base_forms.specs.Texts.{Utf8}
use Rattle.base_forms.specs.Url64.{url64_bytes}
use Rattle.base_forms.specs.declared.hash.HashName.TheVariants.{Sha256}
use Rattle.claim_tree.specs.declared.algorithm.SignAlg.{SignAlg}
use Rattle.json_forms.specs.Look.{elements_of}
use Rattle.json_forms.specs.Text.{json_of}
use Rattle.jws_envelope.specs.Compact.{dot_parts}
use Rattle.jws_envelope.specs.Draft.{message_of, meant, IsReadAs}
use Rattle.jws_envelope.specs.Envelope.{Envelope, envelope_of, jws_rule}
use Rattle.sdjwt_digests.specs.Disclosures.{Disclosed, salted, digest_of, disclosed, all_disclosed}
use Rattle.sdjwt_disclosures.proofs.Uses.{all_both}
use Rattle.sdjwt_view.specs.Reading.{has_sd_type, most_disclosures}
use Rattle.sdjwt_view.specs.Facts.{facts_rule}
use Rattle.sdjwt_view.specs.Relation.{Says, Reads}
use Rattle.sdjwt_hiding.specs.Hiding.{Marks, Numbered, hidden, met, by_number, disclosures, StaysPlain}
use Rattle.sdjwt_hiding.specs.Hiding.{Digests}
use Rattle.sdjwt_hiding.specs.Meant.{meant_members}
use Rattle.sdjwt_hiding.specs.Disclosing.{by_sha256, text_of, disclosure_texts, IsReadBack}
use Rattle.sdjwt_hiding.proofs.Numbers.{all_after, alone, added_up, sum_by_number}
use Rattle.sdjwt_hiding.proofs.Payload.{hidden_is_meant}
use Rattle.sdjwt_hiding.proofs.Plainly.{same_member, none_named}
use Rattle.sdjwt_hiding.proofs.Depths.{IsShallow, met_shallow}
use Rattle.sdjwt_issue.specs.Issued.{payload_of, header_by, input_by, issued_text, content_by, MayIssue}
use Rattle.sdjwt_issue.proofs.Tildes.{HasNoTilde, url64_untilded, message_untilded, parts_are}

-- ---- the message

rule_none : (o : Option ℕ) (e d : Envelope) → unless_broken o e ≡ Ok d → o ≡ None
rule_none None e d h = refl
rule_none (Some n) e d h = absurd (cc h)

value_is : (o : Option ℕ) (e d : Envelope) → unless_broken o e ≡ Ok d → e ≡ d
value_is None e d h = cc h
value_is (Some n) e d h = absurd (cc h)

-- ---- the disclosures

-- the text says the disclosure
abbrev IsTold : Numbered → Type 0
IsTold p = disclosed Sha256 (text_of p) ≡ Some p.1

told_from : (p : Numbered) → IsReadBack p → depth p.1.value ≤ 65 → IsTold p
told_from p back shallow = back (omega (arith, shallow))

all_told : (ps : List Numbered) → AllByRecursion IsTold ps
    → all_disclosed Sha256 (map text_of ps) ≡ Some (alone ps)
all_told [] h = refl
all_told (p ∷ ps) h =
    ap (λ o. option_and_then (λ d. option_map (λ ds. d ∷ ds) (all_disclosed Sha256 (map text_of ps))) o) h.0
    ∙ ap (option_map (λ ds. p.1 ∷ ds)) (all_told ps h.1)

some_bytes : (o : Option (List ℕ)) (f : (Option Utf8 × Data) → Disclosed) (d : Disclosed)
    → option_map f (option_and_then (λ v. salted (elements_of v)) (option_and_then json_of o)) ≡ Some d
    → is_some o ≡ true
some_bytes None f d e = absurd (cc e)
some_bytes (Some b) f d e = refl

texts_untilded : (ps : List Numbered) → AllByRecursion IsTold ps → AllByRecursion HasNoTilde (map text_of ps)
texts_untilded [] h = tt
texts_untilded (p ∷ ps) h = (
  url64_untilded (text_of p)
      (some_bytes (url64_bytes (text_of p))
      (λ q. record { digest = digest_of Sha256 (text_of p); name = q.0; value = q.1 }) p.1 h.0),
  texts_untilded ps h.1,
)

-- ---- how many

counted : {A : Type 0} (f : Numbered → A) (ps : List Numbered) → length (map f ps) ≡ added_up (λ p. 1) ps
counted f [] = refl
counted f (p ∷ ps) = omega (arith, counted f ps)

plain_counted : (ps : List Numbered) → length ps ≡ added_up (λ p. 1) ps
plain_counted [] = refl
plain_counted (p ∷ ps) = omega (arith, plain_counted ps)

few_texts : (ps : List Numbered) → length ps ≤ most_disclosures
    → length (map text_of (by_number ps)) ≤ most_disclosures
few_texts ps few = omega (
  arith,
  few,
  counted text_of (by_number ps),
  sum_by_number (λ p. 1) ps,
  plain_counted
      ps,
)

-- ---- the facts

same_facts : (x : Digests) (m : Marks) (ms : Fields) → StaysPlain m (codes "vct") → StaysPlain m (codes "nbf")
    → StaysPlain m (codes "exp") → StaysPlain m (codes "cnf")
    → facts_rule (hidden x m (object ms)) ≡ facts_rule (object ms)
unfolding facts_rule
same_facts x m ms kind start past holder =
    rw (
      same_member x m (codes "vct") ms refl kind,
      same_member x m (codes "nbf") ms refl start,
      same_member x m (codes "exp") ms refl past,
      same_member x m (codes "cnf") ms refl holder,
    ) refl

-- ---- the law

typed : (alg : SignAlg) (key : Utf8) → has_sd_type (header_by alg key) ≡ true
typed alg key = refl

module _ (alg : SignAlg) (key : Utf8) (m : Marks) (ms : Fields) (may : MayIssue m ms) where
  module _ (read : IsReadAs (header_by alg key) (payload_of m ms) (input_by alg key m ms)) where
    module _ (back : AllByRecursion IsReadBack (met by_sha256 m (object ms))) where
      module _ (signature : List ℕ) (bytes : IsBytes signature) where
        abbrev message : Utf8
        message = message_of (input_by alg key m ms) signature

        unbroken : jws_rule message ≡ None
        unbroken = rule_none (jws_rule message) (envelope_of (dot_parts message))
            (meant (header_by alg key) (payload_of m ms) (input_by alg key m ms) signature)
            (read signature bytes)

        message_says : envelope_of (dot_parts message) ≡ meant (header_by alg key) (payload_of m ms)
            (input_by alg key m ms) signature
        message_says = value_is (jws_rule message) (envelope_of (dot_parts message))
            (meant (header_by alg key) (payload_of m ms) (input_by alg key m ms) signature)
            (read signature bytes)

        told : AllByRecursion IsTold (by_number (met by_sha256 m (object ms)))
        told = all_after IsTold (met by_sha256 m (object ms))
            (all_both IsReadBack (IsShallow by_sha256 65) IsTold told_from (met by_sha256 m (object ms)) back
            (met_shallow by_sha256 64 m (object ms) may.may_hide.shallow))

        says : Says (meant (header_by alg key) (payload_of m ms) (input_by alg key m ms) signature)
            (disclosure_texts m (object ms)) (content_by alg key m ms signature)
        says =
            let spelled = hidden_is_meant by_sha256 m ms may.may_hide in
            record {
              is_typed = typed alg key;
              hash = Sha256;
              names_hash = ap (λ o. option_map_or (λ d. option_and_then hash_named (as_str d)) o
                  (Some Sha256)) (none_named by_sha256 m ms may.may_hide.keeps);
              few = few_texts (met by_sha256 m (object ms)) may.few;
              disclosures = disclosures by_sha256 m (object ms);
              are_disclosed = all_told (by_number (met by_sha256 m (object ms))) told;
              none_reserved = spelled.none_reserved;
              sound = spelled.sound;
              sound_values = spelled.sound_values;
              apart = spelled.apart;
              members = meant_members m ms;
              used = spelled.used;
              spells = spelled.spells;
              uses_each = spelled.uses_each;
              facts = same_facts by_sha256 m ms may.plain_kind may.plain_first may.plain_past may.plain_holder
                  ∙ may.facts;
              says = refl;
            }

        pub issued_reads : Reads (issued_text alg key m ms signature) (content_by alg key m ms signature)
        issued_reads = (
          message,
          disclosure_texts m (object ms),
          parts_are message (disclosure_texts m (object ms)) (message_untilded message unbroken)
              (texts_untilded (by_number (met by_sha256 m (object ms))) told),
          unbroken,
          subst (λ e. Says e (disclosure_texts m (object ms)) (content_by alg key m ms signature))
              (sym message_says) says,
        )
