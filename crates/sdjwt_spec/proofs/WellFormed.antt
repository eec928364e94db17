-- What is read of a spec that breaks no rule may be issued.
use Rattle.std.proofs.Common.{◌≡◌, ◌≤◌, Bool, true, false, not, ◌&&◌, ◌||◌, cond, List, [], ◌∷◌, codes}
use Rattle.std.proofs.Common.{length, Option, Some, None, option_map, option_and_then, refl, sym, ap, ◌∙◌}
use Rattle.std.proofs.Common.{inl}
use Rattle.std.proofs.Common.{inr, arith, subst}
use Rattle.std.specs.Prelude.{unwrap_or, is_some, is_none, nat_lt, ⊤}
use Rattle.std.specs.Option.{option_map_or}
use Rattle.std.specs.List.{list_any, list_all}
use Rattle.std.specs.Str.{bytes_eq}
use Rattle.std.proofs.lemmas.Bool.{and_parts, and_from, or_parts, cases_Bool}
use Rattle.std.proofs.lemmas.Option.{option_and_then_some}
use Rattle.serde_json.specs.Data.{Data, object, Members as Fields}
use Rattle.serde_json.specs.Data.{no_members as no_fields, depth}
use Rattle.serde_json.specs.Find.{get, get_member, as_object, as_str}
use Rattle.serde_json.specs.Written.{members_have_float}
use Rattle.base_forms.specs.Texts.{Utf8, is_among}
use Rattle.base_forms.proofs.Differing.{same_from}
use Rattle.json_forms.specs.Look.{text_at}
use Rattle.jws_envelope.specs.KeyNames.{kid_name, jwk_name}
use Rattle.claim_tree.specs.Tree.{is_claim, ascend, hold_claims, member_names}
use Rattle.claim_tree.specs.Plain.{plain, plain_members as plain_fields}
use Rattle.claim_names.specs.declared.address.Step.{Step}
use Rattle.claim_names.specs.declared.address.Step.TheVariants.{Name, Place}
use Rattle.sdjwt_facts.specs.Facts.{is_key}
use Rattle.sdjwt_digests.proofs.ValueClaims.{json_claim}
use Rattle.sdjwt_disclosures.specs.MemberNames.{plain_only}
use Rattle.sdjwt_view.specs.Reading.{most_disclosures}
use Rattle.sdjwt_hiding.specs.Addresses.{number_in}
use Rattle.sdjwt_hiding.specs.Hiding.{is_free, has_free, met}
use Rattle.sdjwt_hiding.specs.Disclosing.{by_sha256}
use Rattle.sdjwt_hiding.proofs.Written.{absent}
use Rattle.sdjwt_issue.specs.Spec.{Spec, all_members, begins_plain_only, IsHolderKey, IsSdJwtSpec}
use Rattle.sdjwt_issue.proofs.Members.{none_in_claims, all_fine}
use Rattle.spec_forms.proofs.Tables.{no_rule, at_most}
use Rattle.spec_forms.proofs.Parts.{part_claim, object_claim}
use Rattle.sdjwt_spec.specs.Names.{value_in, kid_parts, if_kid_name, jwk_in, if_jwk_name, two_texts}
use Rattle.sdjwt_spec.specs.Addresses.{leads_to_part, part_at}
use Rattle.sdjwt_spec.specs.Meaning.{if_there, key_in, kind_in, holder_of, holder_in, moment_in, claims_in}
use Rattle.sdjwt_spec.specs.Meaning.{spec_of}
use Rattle.sdjwt_spec.specs.Rules.{form_rule, leads_each, names_own, has_refused_name, is_too_deep}
use Rattle.sdjwt_spec.specs.Rules.{breaks_limit, content_rule}
use Rattle.sdjwt_spec.proofs.Few.{numbered, met_few, none_met}

-- ---- tests

holds : (b : Bool) → not b ≡ false → b ≡ true
holds true e = refl
holds false e = cc

-- ---- the name of the issuer's key

kid_at : (b : Bool) (name : Utf8) (p q : Utf8 × Utf8) → bytes_eq name (kid_name p.0 p.1) ≡ b
    → cond b (Some p) None ≡ Some q → name ≡ kid_name q.0 q.1
kid_at true name p q is e =
    let same : p ≡ q = cc in same_from name (kid_name p.0 p.1) is ∙ ap (λ r. kid_name r.0 r.1) same
kid_at false name p q is e = cc

kid_spelled : (name : Utf8) (q : Utf8 × Utf8) → kid_parts name ≡ Some q → name ≡ kid_name q.0 q.1
kid_spelled name q e = option_and_then_some (if_kid_name name) (option_and_then two_texts (value_in name)) q e
    (λ p _ h. kid_at (bytes_eq name (kid_name p.0 p.1)) name p q refl h)

key_named : (t : Option Utf8) (o : Option (Utf8 × Utf8)) → option_and_then kid_parts t ≡ o
    → is_none o ≡ false → unwrap_or t [] ≡ kid_name (unwrap_or o ([], [])).0 (unwrap_or o ([], [])).1
key_named t None is e = cc
key_named None (Some q) is e = cc
key_named (Some name) (Some q) is e = kid_spelled name q is

-- ---- the holder's key

-- a key as it is read, whatever its names and its depth
abbrev IsReadKey : Option Data → Type 0
IsReadKey None = ⊤
IsReadKey (Some jwk) = (is_key jwk ≡ true) × (is_claim (plain jwk) ≡ true)

jwk_at : (b : Bool) (jwk found : Data) (same : Bool) → (is_key jwk && same) ≡ b
    → cond b (Some jwk) None ≡ Some found → is_claim (plain jwk) ≡ true → IsReadKey (Some found)
jwk_at true jwk found same is e c =
    let here : jwk ≡ found = cc in
    subst (λ d. IsReadKey (Some d)) here ((and_parts (is_key jwk) same is).0, c)
jwk_at false jwk found same is e c = cc

jwk_read : (name : Utf8) (found : Data) → jwk_in name ≡ Some found → IsReadKey (Some found)
jwk_read name found e = option_and_then_some (if_jwk_name name) (value_in name) found e
    (λ jwk is h. jwk_at (is_key jwk && bytes_eq name (jwk_name jwk)) jwk found (bytes_eq name (jwk_name jwk))
    refl h (json_claim _ jwk is))

holder_at : (o : Option Data) → ((jwk : Data) → o ≡ Some jwk → IsReadKey (Some jwk))
    → is_none (option_map Some o) ≡ false → IsReadKey (unwrap_or (option_map Some o) None)
holder_at None read e = cc
holder_at (Some jwk) read e = read jwk refl

holder_read : (o : Option Data) → is_none (if_there holder_of o) ≡ false
    → IsReadKey (unwrap_or (if_there holder_of o) None)
holder_read None e = tt
holder_read (Some h) e =
    holder_at (holder_of h) (λ jwk is. option_and_then_some jwk_in (as_str h) jwk is
    (λ name _ found. jwk_read name jwk found)) e

-- ---- the claims

claims_at : (o : Option Fields) → ((ms : Fields) → o ≡ Some ms → is_claim (plain (object ms)) ≡ true)
    → is_none o ≡ false → is_claim (plain (object (unwrap_or o no_fields))) ≡ true
claims_at None read e = cc
claims_at (Some ms) read e = read ms refl

claims_read : (d : Data) → is_claim (plain d) ≡ true → is_none (claims_in d) ≡ false
    → is_claim (plain (object (unwrap_or (claims_in d) no_fields))) ≡ true
claims_read d h e =
    claims_at (claims_in d) (λ ms is. option_and_then_some as_object (get (codes "claims") d) ms is
    (λ c found whole. object_claim c ms (part_claim (codes "claims") d c h found) whole)) e

-- ---- what the rules of form give

record IsRead (s : Spec) : Type 0 where
  pub is_name : s.key_name ≡ kid_name s.issuer s.key
  pub holder : IsReadKey s.holder
  pub claims : is_claim (plain (object s.claims)) ≡ true

is_read : (d : Data) → is_claim (plain d) ≡ true → form_rule d ≡ None → IsRead (spec_of d)
is_read d h e =
    let key = no_rule 1 (is_none (key_in d)) _ e in
    let kind = no_rule 1 (is_none (kind_in d)) _ key.1 in
    let holder = no_rule 1 (is_none (holder_in d)) _ kind.1 in
    let from = no_rule 1 (is_none (moment_in (codes "from") d)) _ holder.1 in
    let until = no_rule 1 (is_none (moment_in (codes "until") d)) _ from.1 in
    let claims = no_rule 1 (is_none (claims_in d)) _ until.1 in
    record {
      is_name = key_named (text_at (codes "key") d) (key_in d) refl key.0;
      holder = holder_read (get (codes "holder") d) holder.0;
      claims = claims_read d h claims.0;
    }

-- ---- what the rules about content give

missing_part : (k : Utf8) (a : List Step) (o : Option Data) → o ≡ None
    → is_some (option_and_then (part_at a) o) ≡ true → false ≡ true
missing_part k a None is e = e
missing_part k a (Some d) is e = cc

leads_elsewhere : (ms : Fields) (h : List Step)
    → list_any (λ k. is_among k plain_only) (member_names (plain_fields ms)) ≡ false
    → leads_to_part (object ms) h ≡ true → begins_plain_only h ≡ false
leads_elsewhere ms [] own leads = refl
leads_elsewhere ms (Place i ∷ a) own leads = refl
leads_elsewhere ms (Name k ∷ a) own leads = elim (cases_Bool (is_among k plain_only)) [
  | inl among ↦
      let clash : false ≡ true =
      missing_part k a (get_member k ms) (absent k ms (none_in_claims k ms among own)) leads in
      absurd (cc clash)
  | inr apart ↦ apart
]

none_hides : (ms : Fields) (hide : List (List Step))
    → list_any (λ k. is_among k plain_only) (member_names (plain_fields ms)) ≡ false
    → list_all (leads_to_part (object ms)) hide ≡ true → list_any begins_plain_only hide ≡ false
none_hides ms [] own leads = refl
none_hides ms (h ∷ hide) own leads =
    let both = and_parts (leads_to_part (object ms) h) (list_all (leads_to_part (object ms)) hide) leads in
    rw (leads_elsewhere ms h own both.0) (none_hides ms hide own both.1)

holder_key : (o : Option Data) → IsReadKey o → option_map_or (λ jwk. not (is_free jwk)) o false ≡ false
    → option_map_or (λ jwk. nat_lt 62 (depth jwk)) o false ≡ false → IsHolderKey o
holder_key None read free shallow = tt
holder_key (Some jwk) read free shallow =
    (read.0, read.1, holds (is_free jwk) free, at_most 62 (depth jwk) shallow)

few_hidden : (s : Spec) → is_claim (plain (object (all_members s))) ≡ true → length s.hide ≤ most_disclosures
    → length (met by_sha256 (number_in s.hide) (object (all_members s))) ≤ most_disclosures
few_hidden s c few =
    let met_ones = met_few by_sha256 (number_in s.hide) s.hide (object (all_members s)) c
    (λ t a e. sym (numbered s.hide (t ∷ a)) ∙ e) in
    omega (arith, met_ones, few)

module _ (s : Spec) (read : IsRead s) (unbroken : content_rule s ≡ None) where
  leads : leads_each s ≡ true
  leads = holds (leads_each s) (no_rule 2 (not (leads_each s)) _ unbroken).0

  names : has_refused_name s ≡ false
  names = (no_rule 4 (has_refused_name s) _ (no_rule 3 _ _ (no_rule 2 _ _ unbroken).1).1).0

  limits : breaks_limit s ≡ false
  limits = (no_rule 5 (breaks_limit s) _ (no_rule 4 _ _ (no_rule 3 _ _ (no_rule 2 _ _ unbroken).1).1).1).0

  -- whichever parts are hidden, if they are few and none is what the credential says of itself
  hiding : (hide : List (List Step)) → list_any begins_plain_only hide ≡ false
      → length (met by_sha256 (number_in hide) (object (all_members s))) ≤ most_disclosures
      → IsSdJwtSpec (record s { hide = hide })
  hiding hide own few =
      let unfree = option_map_or (λ jwk. not (is_free jwk)) s.holder false in
      let deep_key = option_map_or (λ jwk. nat_lt 62 (depth jwk)) s.holder false in
      let free = or_parts (not (has_free s.claims)) (names_own s || unfree) names in
      let none_own = or_parts (names_own s) unfree free.1 in
      let count = or_parts (nat_lt most_disclosures (length s.hide))
      (is_too_deep s || members_have_float s.claims) limits in
      let whole = or_parts (is_too_deep s) (members_have_float s.claims) count.1 in
      let shallow = or_parts (nat_lt 64 (depth (object s.claims))) deep_key whole.0 in
      record {
        is_name = read.is_name;
        holder_key = holder_key s.holder read.holder none_own.1 shallow.1;
        is_read = read.claims;
        whole = whole.1;
        free = holds (has_free s.claims) free.0;
        shallow = at_most 64 (depth (object s.claims)) shallow.0;
        none_plain_only = none_own.0;
        none_hides = own;
        few = few;
      }

  none_hidden : length (met by_sha256 (number_in []) (object (all_members s))) ≤ most_disclosures
  none_hidden =
      let none = ap length (none_met by_sha256 (number_in []) (object (all_members s)) (λ a. refl)) in
      omega arith

  members_claim : is_claim (plain (object (all_members s))) ≡ true
  members_claim =
      let fine = all_fine (record s { hide = [] }) (hiding [] refl none_hidden) in
      and_from (ascend (member_names (plain_fields (all_members s))))
      (hold_claims (plain_fields (all_members s))) fine.ascending fine.claims

  few_addresses : length s.hide ≤ most_disclosures
  few_addresses = at_most most_disclosures (length s.hide)
      (or_parts (nat_lt most_disclosures (length s.hide)) (is_too_deep s || members_have_float s.claims)
      limits).0

  own_parts : list_any begins_plain_only s.hide ≡ false
  own_parts =
      let free = or_parts (not (has_free s.claims))
      (names_own s || option_map_or (λ jwk. not (is_free jwk)) s.holder false) names in
      none_hides s.claims s.hide
      (or_parts (names_own s) (option_map_or (λ jwk. not (is_free jwk)) s.holder false) free.1).0 leads

  may_be_issued : IsSdJwtSpec s
  may_be_issued = hiding s.hide own_parts (few_hidden s members_claim few_addresses)

pub read_may_be_issued : (d : Data) (s : Spec) → s ≡ spec_of d → form_rule d ≡ None → content_rule s ≡ None
    → is_claim (plain d) ≡ true → IsSdJwtSpec s
read_may_be_issued d s is form content h =
    may_be_issued s (subst IsRead (sym is) (is_read d h form)) content
