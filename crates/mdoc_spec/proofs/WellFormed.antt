-- What is read of a spec that breaks no rule may be issued.
use Rattle.std.proofs.Common.{◌≡◌, ◌<◌, ℕ, Bool, true, false, not, ◌&&◌, ◌||◌, ◌++◌, cond, List, [], codes}
use Rattle.std.proofs.Common.{Option, Some, None, option_and_then, refl, sym, ap, ◌∙◌, arith, subst}
use Rattle.std.specs.Prelude.{unwrap_or, is_none, nat_lt}
use Rattle.std.specs.Str.{bytes_eq}
use Rattle.std.proofs.lemmas.Bool.{and_parts, or_parts}
use Rattle.std.proofs.lemmas.Option.{option_and_then_some}
use Rattle.serde_json.specs.Data.{Data, object, Members as Fields, no_members as no_fields}
use Rattle.serde_json.specs.Find.{get, as_object}
use Rattle.serde_json.specs.Written.{members_have_float}
use Rattle.base_forms.specs.Base16.{hex_of}
use Rattle.base_forms.specs.Texts.{Utf8}
use Rattle.base_forms.proofs.Differing.{same_from}
use Rattle.json_forms.specs.Look.{text_at}
use Rattle.cbor_core.specs.Rules.{broken_rule}
use Rattle.claim_tree.specs.Tree.{is_claim, ascend, hold_claims, member_names}
use Rattle.claim_tree.specs.Plain.{plain, plain_members as plain_fields}
use Rattle.cose_sign1.specs.Sign1.{named_key}
use Rattle.sdjwt_facts.specs.Facts.{moment_at}
use Rattle.mdoc_items.specs.IssuerSignedItems.{most_items}
use Rattle.mdoc_security.specs.DeviceKey.{is_key, key_bytes}
use Rattle.mdoc_object.specs.Namespaces.{element_count}
use Rattle.mdoc_written.specs.Laws.{IsText}
use Rattle.mdoc_issue.specs.Spec.{Spec, year_10000, IsHolderKey, IsMdocSpec}
use Rattle.sdjwt_hiding.specs.Hiding.{has_free}
use Rattle.spec_forms.proofs.Tables.{no_rule, at_most}
use Rattle.spec_forms.proofs.Parts.{part_claim, object_claim}
use Rattle.mdoc_spec.specs.Names.{bytes_in, if_key_identifier, key_identifier_in, is_written_key}
use Rattle.mdoc_spec.specs.Names.{if_holder_key, holder_key_in}
use Rattle.mdoc_spec.specs.Elements.{are_namespaces, has_misspelled_element, has_deep_element}
use Rattle.mdoc_spec.specs.Meaning.{key_in, kind_in, holder_in, if_has_date, moment_in, if_namespaces}
use Rattle.mdoc_spec.specs.Meaning.{claims_in, spec_of}
use Rattle.mdoc_spec.specs.Rules.{form_rule, breaks_limit, content_rule}
use Rattle.mdoc_spec.specs.code.Texts.{HoldStored}
use Rattle.mdoc_spec.proofs.Encoded.{same_names, namespaces_from}

-- what a test lets through, it lets through as it is, and then the test holds
let_through : {A : Type 0} (b : Bool) (x y : A) → cond b (Some x) None ≡ Some y → (b ≡ true) × (x ≡ y)
let_through true x y e = (refl, cc)
let_through false x y e = cc

-- ---- keys

identifier_spelled : (name : Utf8) (bytes : List ℕ) → key_identifier_in name ≡ Some bytes
    → name ≡ named_key bytes
identifier_spelled name bytes e = option_and_then_some (if_key_identifier name) (bytes_in name) bytes e
    (λ b _ h. let is = let_through (bytes_eq name (named_key b)) b bytes h in
    same_from name (named_key b) is.0 ∙ ap named_key is.1)

key_named : (t : Option Utf8) (o : Option (List ℕ)) → option_and_then key_identifier_in t ≡ o
    → is_none o ≡ false → unwrap_or t [] ≡ named_key (unwrap_or o [])
key_named t None is e = cc
key_named None (Some bytes) is e = cc
key_named (Some name) (Some bytes) is e = identifier_spelled name bytes is

none_from : (o : Option ℕ) → is_none o ≡ true → o ≡ None
none_from None e = refl
none_from (Some n) e = cc

written_key : (bytes : List ℕ) → is_written_key bytes ≡ true → IsHolderKey bytes
written_key bytes h =
    let item = and_parts (is_none (broken_rule 1 bytes))
    (is_key bytes && bytes_eq (key_bytes bytes) bytes) h in
    let form = and_parts (is_key bytes) (bytes_eq (key_bytes bytes) bytes) item.1 in
    record {
      is_item = none_from (broken_rule 1 bytes) item.0;
      of_form = form.0;
      deterministic = same_from (key_bytes bytes) bytes form.1;
    }

holder_named : (name : Utf8) (bytes : List ℕ) → holder_key_in name ≡ Some bytes → IsHolderKey bytes
holder_named name bytes e = option_and_then_some (if_holder_key name) (bytes_in name) bytes e
    (λ b _ h.
    let is = let_through (bytes_eq name (codes "cose:" ++ hex_of b) && is_written_key b) b bytes h in
    subst IsHolderKey is.1 (written_key b (and_parts (bytes_eq name (codes "cose:" ++ hex_of b))
    (is_written_key b) is.0).1))

holder_read : (o : Option (List ℕ)) → ((bytes : List ℕ) → o ≡ Some bytes → IsHolderKey bytes)
    → is_none o ≡ false → IsHolderKey (unwrap_or o [])
holder_read None read e = cc
holder_read (Some bytes) read e = read bytes refl

-- ---- dates

dated : (m n : ℕ) → if_has_date m ≡ Some n → n < year_10000
dated m n e =
    let is = let_through (nat_lt m year_10000) m n e in
    subst (λ k. k < year_10000) is.1 (below m year_10000 is.0) where
      below : (a b : ℕ) → nat_lt a b ≡ true → a < b
      below a b h = grind arith

moment_read : (o : Option ℕ) → ((n : ℕ) → o ≡ Some n → n < year_10000) → is_none o ≡ false
    → unwrap_or o 0 < year_10000
moment_read None read e = cc
moment_read (Some n) read e = read n refl

moment_dated : (k : Utf8) (d : Data) → is_none (moment_in k d) ≡ false
    → unwrap_or (moment_in k d) 0 < year_10000
moment_dated k d e =
    moment_read (moment_in k d) (λ n is. option_and_then_some if_has_date (moment_at k d) n is
    (λ m _ h. dated m n h)) e

-- ---- namespaces

record AreRead (ms : Fields) : Type 0 where
  pub objects : are_namespaces ms ≡ true
  pub claim : is_claim (plain (object ms)) ≡ true

namespaces_in : (d : Data) (ms : Fields) → is_claim (plain d) ≡ true → claims_in d ≡ Some ms → AreRead ms
namespaces_in d ms h e =
    option_and_then_some if_namespaces (option_and_then as_object (get (codes "claims") d)) ms e
    (λ fs found kept. option_and_then_some as_object (get (codes "claims") d) fs found
    (λ c at whole.
    let is = let_through (are_namespaces fs && not (has_misspelled_element fs)) fs ms kept in
    subst AreRead is.1 (record {
      objects = (and_parts (are_namespaces fs) (not (has_misspelled_element fs)) is.0).0;
      claim = object_claim c fs (part_claim (codes "claims") d c h at) whole;
    })))

namespaces_read : (o : Option Fields) → ((ms : Fields) → o ≡ Some ms → AreRead ms) → is_none o ≡ false
    → AreRead (unwrap_or o no_fields)
namespaces_read None read e = cc
namespaces_read (Some ms) read e = read ms refl

-- ---- what the rules of form give

record IsRead (s : Spec) : Type 0 where
  pub is_name : s.key_name ≡ named_key s.key
  pub holder : IsHolderKey s.holder
  pub from : s.from < year_10000
  pub until : s.until < year_10000
  pub namespaces : AreRead s.namespaces

is_read : (d : Data) → is_claim (plain d) ≡ true → form_rule d ≡ None → IsRead (spec_of d)
is_read d h e =
    let key = no_rule 1 (is_none (key_in d)) _ e in
    let kind = no_rule 1 (is_none (kind_in d)) _ key.1 in
    let holder = no_rule 1 (is_none (holder_in d)) _ kind.1 in
    let from = no_rule 1 (is_none (moment_in (codes "from") d)) _ holder.1 in
    let until = no_rule 1 (is_none (moment_in (codes "until") d)) _ from.1 in
    let claims = no_rule 1 (is_none (claims_in d)) _ until.1 in
    record {
      is_name = key_named (text_at (codes "key") d) (key_in d) refl key.0;
      holder = holder_read (holder_in d) (λ bytes is. option_and_then_some holder_key_in
          (text_at (codes "holder") d) bytes is (λ name _ found. holder_named name bytes found)) holder.0;
      from = moment_dated (codes "from") d from.0;
      until = moment_dated (codes "until") d until.0;
      namespaces = namespaces_read (claims_in d) (λ ms is. namespaces_in d ms h is) claims.0;
    }

-- ---- what may be issued

may_be_issued : (s : Spec) → IsRead s → content_rule s ≡ None → IsText s.kind → HoldStored s.namespaces
    → IsMdocSpec s
may_be_issued s read e kind stored =
    let limits = (no_rule 5 (breaks_limit s) _ (no_rule 4 (not (has_free s.namespaces)) _ e).1).0 in
    let few = or_parts (nat_lt most_items (element_count s.namespaces))
    (has_deep_element s.namespaces || members_have_float s.namespaces) limits in
    let whole = or_parts (has_deep_element s.namespaces) (members_have_float s.namespaces) few.1 in
    let claim = and_parts (ascend (member_names (plain_fields s.namespaces)))
    (hold_claims (plain_fields s.namespaces)) read.namespaces.claim in
    record {
      is_name = read.is_name;
      kind_is_text = kind;
      holder_key = read.holder;
      from_has_text = read.from;
      until_has_text = read.until;
      names_ascend = sym (ap ascend (same_names s.namespaces)) ∙ claim.0;
      are_namespaces = namespaces_from s.namespaces read.namespaces.objects claim.1 whole.1 stored whole.0;
      few = at_most most_items (element_count s.namespaces) few.0;
    }

pub read_may_be_issued : (d : Data) (s : Spec) → s ≡ spec_of d → form_rule d ≡ None → content_rule s ≡ None
    → IsText s.kind → HoldStored s.namespaces → is_claim (plain d) ≡ true → IsMdocSpec s
read_may_be_issued d s is form content kind stored h =
    may_be_issued s (subst IsRead (sym is) (is_read d h form)) content kind stored
