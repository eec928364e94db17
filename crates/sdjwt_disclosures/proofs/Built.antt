-- What is computed spells by the relation, where no place asks for a disclosure of the other kind and no
-- object gets a name twice.
use Rattle.std.proofs.Common.{◌≡◌, ℕ, zero, suc, Bool, true, false, not, ◌&&◌, ◌||◌, cond, List, [], ◌∷◌}
use Rattle.std.proofs.Common.{◌++◌, map, Option, Some, None, option_map, option_and_then, refl, sym, ap, ◌∙◌}
use Rattle.std.proofs.Common.{subst, arith, inl, inr}
use Rattle.std.specs.Option.{is_some}
use Rattle.std.specs.Str.{bytes_eq}
use Rattle.std.specs.List.{list_any}
use Rattle.std.proofs.lemmas.Bool.{cases_Bool, and_parts, or_parts}
use Rattle.serde_json.specs.Data.{Data, null, boolean, number, string, array, object, Items, no_items, item}
use Rattle.serde_json.specs.Data.{Members as Fields, no_members as no_fields, member as field}
use Rattle.claim_tree.specs.Tree.{Tree, ListOf, RecordOf, ascend, is_claim, are_claims, hold_claims}
use Rattle.claim_tree.specs.Tree.{member_names, element_marks}
use Rattle.claim_tree.specs.Plain.{plain, plain_elements, plain_members as plain_fields}
use Rattle.claim_tree.specs.Parts.{Part, Named, elements_of, members_of}
use Rattle.sdjwt_disclosures.specs.PutMember.{put_member}
use Rattle.base_forms.specs.Texts.{Utf8, is_among}
use Rattle.sdjwt_digests.specs.Disclosures.{Disclosed, found}
use Rattle.sdjwt_digests.specs.DigestSites.{sd, in_object, in_list, placeholder, is_placeholder}
use Rattle.sdjwt_digests.specs.DigestSites.{own_digests}
use Rattle.sdjwt_digests.specs.DigestSites.{sites_in, sites_in_items, sites_in_members}
use Rattle.sdjwt_disclosures.specs.DisclosureRules.{is_mismatch}
use Rattle.sdjwt_disclosures.specs.MemberNames.{disclosed_names, gets_clash, has_clash, items_have_clash}
use Rattle.sdjwt_disclosures.specs.MemberNames.{members_have_clash}
use Rattle.sdjwt_disclosures.specs.DisclosedTree.{has_placeholder, left_out, disclosed_element}
use Rattle.sdjwt_disclosures.specs.DisclosedTree.{spelled_element}
use Rattle.sdjwt_disclosures.specs.DisclosedTree.{spelled_elements, plain_members, with_disclosure}
use Rattle.sdjwt_disclosures.specs.DisclosedTree.{with_disclosures}
use Rattle.sdjwt_disclosures.specs.DisclosedTree.{spelled_members, spelled}
use Rattle.sdjwt_disclosures.specs.Spelling.{Way, SpellElements, SpellPlain, SpellHeld, put_members}
use Rattle.sdjwt_disclosures.specs.Spelling.{SpellMembers}
use Rattle.sdjwt_disclosures.specs.Spelling.{Spells}
use Rattle.sdjwt_disclosures.proofs.Claims.{IsSound}
use Rattle.sdjwt_disclosures.proofs.Counting.{one_true}
use Rattle.sdjwt_disclosures.proofs.Fields.{LeavesTexts, has_one, sd_left, leaves_inner, plain_sites}
use Rattle.sdjwt_disclosures.proofs.Fields.{under_parts}
use Rattle.sdjwt_disclosures.proofs.Fits.{misses, misses-append}
use Rattle.sdjwt_disclosures.proofs.Walks.{held_names}

-- ---- what an `Option` was made from

pub split_joined : {X Y : Type 0} (g : X → Option Y) (a : Option X) (y : Y) → option_and_then g a ≡ Some y
    → (x : X) × (a ≡ Some x) × (g x ≡ Some y)
split_joined g None y e = absurd (cc)
split_joined g (Some x) y e = (x, refl, e)

pub split_map : {X Y : Type 0} (f : X → Y) (a : Option X) (y : Y) → option_map f a ≡ Some y
    → (x : X) × (a ≡ Some x) × (f x ≡ y)
split_map f None y e = absurd (cc)
split_map f (Some x) y e = (x, refl, cc)

-- ---- values without a fault

abbrev pub IsFine : List Disclosed → Data → Type 0
IsFine ls d = (misses ls (sites_in d) ≡ 0) × (has_clash ls d ≡ false)

abbrev pub AreFine : List Disclosed → Type 0
AreFine ls = (x : Utf8) (l : Disclosed) → found x ls ≡ Some l → IsSound l.value × IsFine ls l.value

abbrev pub Builds : List Disclosed → Way → (Data → Option Tree) → Type 0
Builds ls Inner inner = (d : Data) (t : Tree) → IsSound d → IsFine ls d → inner d ≡ Some t
    → (us : List Utf8) × Inner d t us

other_in_list : (ls : List Disclosed) (x : Utf8) (l : Disclosed) (k : Utf8) → found x ls ≡ Some l
    → l.name ≡ Some k → is_mismatch ls (in_list x) ≡ true
other_in_list ls x l k e f = rw (e, is_mismatch) (rw f refl)

other_in_object : (ls : List Disclosed) (x : Utf8) (l : Disclosed) → found x ls ≡ Some l → l.name ≡ None
    → is_mismatch ls (in_object x) ≡ true
other_in_object ls x l e f = rw (e, is_mismatch) (rw f refl)

-- ---- lists

module _ (ls : List Disclosed) (Inner : Way) (inner : Data → Option Tree) (build : Builds ls Inner inner)
    (fine : AreFine ls) where
  named_element : (d : Data) (ds : Items) (es gs : List Part) (x : Utf8) (l : Disclosed) (vs : List Utf8)
      → placeholder d ≡ Some x → found x ls ≡ Some l → misses ls (in_list x ∷ []) ≡ 0
      → SpellElements Inner ls ds es vs
      → (n : Option Utf8) → l.name ≡ n
      → elim n [ None ↦ option_map (λ t. (true, t) ∷ []) (inner l.value) | Some k ↦ Some [] ] ≡ Some gs
      → (us : List Utf8) × SpellElements Inner ls (item d ds) (gs ++ es) us
  named_element d ds es gs x l vs e f kind rest None n h =
      let t = split_map (λ (t : Tree). (true, t) ∷ []) (inner l.value) gs h in
      let value = fine x l f in
      let i = build l.value t.0 value.0 value.1 t.1 in (
        x ∷ i.0 ++ vs,
        subst (λ ps. SpellElements Inner ls (item d ds) (ps ++ es) (x ∷ i.0 ++ vs)) t.2
            (SpellElements.disclosed e f n i.1 rest),
      )
  named_element d ds es gs x l vs e f kind rest (Some k) n h =
      absurd (omega (arith, one_true (is_mismatch ls (in_list x)) (other_in_list ls x l k f n)))

  found_element : (d : Data) (ds : Items) (es gs : List Part) (x : Utf8) (vs : List Utf8)
      → placeholder d ≡ Some x → misses ls (in_list x ∷ []) ≡ 0 → SpellElements Inner ls ds es vs
      → (o : Option Disclosed) → found x ls ≡ o → disclosed_element inner o ≡ Some gs
      → (us : List Utf8) × SpellElements Inner ls (item d ds) (gs ++ es) us
  found_element d ds es gs x vs e kind rest None f h =
      let nothing : [] ≡ gs = cc in (
        vs,
        subst (λ ps. SpellElements Inner ls (item d ds) (ps ++ es) vs) nothing
            (SpellElements.undisclosed e f rest),
      )
  found_element d ds es gs x vs e kind rest (Some l) f h =
      named_element d ds es gs x l vs e f kind rest l.name refl h

  one_element : (d : Data) (ds : Items) (es gs : List Part) (vs : List Utf8) → IsSound d
      → SpellElements Inner ls ds es vs
      → (o : Option Utf8) → placeholder d ≡ o
      → misses ls (elim o [ None ↦ sites_in d | Some x ↦ in_list x ∷ [] ]) ≡ 0
      → (not (is_some o) && has_clash ls d) ≡ false
      → elim o [
        | None ↦ option_map (λ t. (false, t) ∷ []) (inner d)
        | Some x ↦ disclosed_element inner
            (found x ls)
      ] ≡ Some gs → (us : List Utf8) × SpellElements Inner ls (item d ds) (gs ++ es) us
  one_element d ds es gs vs sound rest None e kind clash h =
      let t = split_map (λ (t : Tree). (false, t) ∷ []) (inner d) gs h in
      let i = build d t.0 sound (kind, clash) t.1 in (
        i.0 ++ vs,
        subst (λ ps. SpellElements Inner ls (item d ds) (ps ++ es) (i.0 ++ vs)) t.2
            (SpellElements.plain e i.1 rest),
      )
  one_element d ds es gs vs sound rest (Some x) e kind clash h =
      found_element d ds es gs x vs e kind rest (found x ls) refl h

  pub elements_built : (ds : Items) (es : List Part) → are_claims (plain_elements ds) ≡ true
      → misses ls (sites_in_items ds) ≡ 0 → items_have_clash ls ds ≡ false
      → spelled_elements inner ls ds ≡ Some es
      → (us : List Utf8) × SpellElements Inner ls ds es us
  elements_built no_items es sound kind clash h =
      let nothing : [] ≡ es = cc in
      ([], subst (λ ps. SpellElements Inner ls no_items ps []) nothing SpellElements.no_more)
  elements_built (item d ds) es sound kind clash h =
      let a = split_joined (λ e. option_map (λ fs. e ++ fs) (spelled_elements inner ls ds))
      (spelled_element inner ls d) es h in
      let b = split_map (λ fs. a.0 ++ fs) (spelled_elements inner ls ds) es a.2 in
      let both = and_parts (is_claim (plain d)) (are_claims (plain_elements ds)) sound in
      let apart = or_parts (not (is_placeholder d) && has_clash ls d) (items_have_clash ls ds) clash in
      let more = misses-append ls (elim (placeholder d) [ None ↦ sites_in d | Some x ↦ in_list x ∷ [] ])
      (sites_in_items ds) in
      let rest = elements_built ds b.0 both.1 (omega arith) apart.1 b.1 in
      let first = one_element d ds b.0 a.0 rest.0 both.0 rest.1 (placeholder d) refl
      (omega arith) apart.0 a.1 in
      (first.0, subst (λ ps. SpellElements Inner ls (item d ds) ps first.0) b.2 first.1)

  -- ---- objects

  abbrev pub HeldFrom : List Utf8 → List Named → List Named → Type 0
  HeldFrom xs ms ns = (hs : List Named) × (us : List Utf8) × SpellHeld Inner ls xs hs us
      × (ns ≡ put_members hs ms)

  named_member : (x : Utf8) (xs : List Utf8) (ms os ns : List Named) (l : Disclosed) → found x ls ≡ Some l
      → misses ls (in_object x ∷ []) ≡ 0 → HeldFrom xs os ns
      → (n : Option Utf8) → l.name ≡ n
      → elim n [ None ↦ Some ms | Some k ↦ option_map (λ t. put_member (k, true, t) ms) (inner l.value) ]
      ≡ Some os → HeldFrom (x ∷ xs) ms ns
  named_member x xs ms os ns l f kind rest None n h =
      absurd (omega (arith, one_true (is_mismatch ls (in_object x)) (other_in_object ls x l f n)))
  named_member x xs ms os ns l f kind rest (Some k) n h =
      let t = split_map (λ (t : Tree). put_member (k, true, t) ms) (inner l.value) os h in
      let value = fine x l f in
      let i = build l.value t.0 value.0 value.1 t.1 in (
        (k, true, t.0) ∷ rest.0,
        x ∷ i.0 ++ rest.1,
        SpellHeld.disclosed f n i.1 rest.2,
        rest.3
            ∙ ap (put_members rest.0) (sym t.2),
      )

  found_member : (x : Utf8) (xs : List Utf8) (ms os ns : List Named) → misses ls (in_object x ∷ []) ≡ 0
      → HeldFrom xs os ns → (o : Option Disclosed) → found x ls ≡ o → with_disclosure inner o ms ≡ Some os
      → HeldFrom (x ∷ xs) ms ns
  found_member x xs ms os ns kind rest None f h =
      let same : os ≡ ms = cc in
      (rest.0, rest.1, SpellHeld.undisclosed f rest.2, rest.3 ∙ ap (put_members rest.0) same)
  found_member x xs ms os ns kind rest (Some l) f h = named_member x xs ms os ns l f kind rest l.name refl h

  held_built : (xs : List Utf8) (ms ns : List Named) → misses ls (map in_object xs) ≡ 0
      → with_disclosures inner ls xs ms ≡ Some ns → HeldFrom xs ms ns
  held_built [] ms ns kind h =
      let same : ns ≡ ms = cc in
      ([], [], SpellHeld.no_more, same)
  held_built (x ∷ xs) ms ns kind h =
      let a = split_joined (with_disclosures inner ls xs) (with_disclosure inner (found x ls) ms) ns h in
      let rest = held_built xs a.0 ns (omega arith) a.2 in
      found_member x xs ms a.0 ns (omega arith) rest (found x ls) refl a.1

  past_sd : (b c : Bool) → (not b && c) ≡ false → b ≡ false → c ≡ false
  past_sd true c e f = cc
  past_sd false c e f = e

  one_field : (is_payload : Bool) (k : Utf8) (d : Data) (ms : Fields) (ns : List Named) → IsSound d
      → (not (bytes_eq k sd) && has_clash ls d) ≡ false
      → ((os : List Named) → plain_members is_payload inner ms ≡ Some os → (us : List Utf8)
      × SpellPlain Inner (left_out is_payload) ms os us)
      → (b : Bool) → is_among k (left_out is_payload) ≡ b → misses ls (cond b [] (sites_in d)) ≡ 0
      → cond b (plain_members is_payload inner ms)
      (option_and_then (λ t. option_map (λ os. (k, false, t) ∷ os) (plain_members is_payload inner ms))
      (inner d)) ≡ Some ns
      → (us : List Utf8) × SpellPlain Inner (left_out is_payload) (field k d ms) ns us
  one_field is_payload k d ms ns sound clash rest true e kind h =
      let r = rest ns h in
      (r.0, SpellPlain.no_claim e r.1)
  one_field is_payload k d ms ns sound clash rest false e kind h =
      let a = split_joined (λ t. option_map (λ os. (k, false, t) ∷ os) (plain_members is_payload inner ms))
      (inner d) ns h in
      let b = split_map (λ (os : List Named). (k, false, a.0) ∷ os)
      (plain_members is_payload inner ms) ns a.2 in
      let r = rest b.0 b.1 in
      let no_sd : bytes_eq k sd ≡ false = elim (cases_Bool (bytes_eq k sd)) [
        | inl here ↦ absurd (clashing (is_among k (left_out is_payload)) (sd_left is_payload k here) e)
        | inr past ↦ past
      ] in
      let i = build d a.0 sound (kind, past_sd (bytes_eq k sd) (has_clash ls d) clash no_sd) a.1 in (
        i.0 ++ r.0,
        subst (λ os. SpellPlain Inner (left_out is_payload) (field k d ms) os (i.0 ++ r.0)) b.2
            (SpellPlain.plain e i.1 r.1),
      ) where
        clashing : (b : Bool) → b ≡ true → b ≡ false → ⊥
        clashing b e f = cc

  plain_built : (is_payload : Bool) (ms : Fields) (ns : List Named) → hold_claims (plain_fields ms) ≡ true
      → misses ls (plain_sites (left_out is_payload) ms) ≡ 0 → members_have_clash ls ms ≡ false
      → plain_members is_payload inner ms ≡ Some ns
      → (us : List Utf8) × SpellPlain Inner (left_out is_payload) ms ns us
  plain_built is_payload no_fields ns sound kind clash h =
      let nothing : [] ≡ ns = cc in
      ([], subst (λ ps. SpellPlain Inner (left_out is_payload) no_fields ps []) nothing SpellPlain.no_more)
  plain_built is_payload (field k d ms) ns sound kind clash h =
      let both = and_parts (is_claim (plain d)) (hold_claims (plain_fields ms)) sound in
      let apart = or_parts (not (bytes_eq k sd) && has_clash ls d) (members_have_clash ls ms) clash in
      let more = misses-append ls (cond (is_among k (left_out is_payload)) [] (sites_in d))
      (plain_sites (left_out is_payload) ms) in
      one_field is_payload k d ms ns both.0 apart.0
      (λ os e. plain_built is_payload ms os both.1 (omega arith) apart.1 e)
      (is_among k (left_out is_payload)) refl (omega arith) h

  pub members_built : (is_payload : Bool) (ms : Fields) (ns : List Named) → IsSound (object ms)
      → LeavesTexts (left_out is_payload) ms → misses ls (sites_in_members ms) ≡ 0
      → has_clash ls (object ms) ≡ false → spelled_members is_payload inner ls ms ≡ Some ns
      → (us : List Utf8) × SpellMembers is_payload Inner ls ms ns us
  members_built is_payload ms ns sound texts kind clash h =
      let both = and_parts (ascend (member_names (plain_fields ms))) (hold_claims (plain_fields ms)) sound in
      let apart = or_parts (gets_clash (disclosed_names ls (own_digests ms)) ms)
      (members_have_clash ls ms) clash in
      let parts = under_parts (misses ls) (misses-append ls) refl (left_out is_payload)
      (sd_left is_payload) ms (has_one sd ms both.0) texts in
      let a = split_joined (with_disclosures inner ls (own_digests ms))
      (plain_members is_payload inner ms) ns h in
      let p = plain_built is_payload ms a.0 both.1 (omega arith) apart.1 a.1 in
      let q = held_built (own_digests ms) a.0 ns (omega arith) a.2 in (
        p.0 ++ q.1,
        record {
          plain = a.0;
          held = q.0;
          plain_uses = p.0;
          held_uses = q.1;
          spells_plain = p.1;
          spells_held = q.2;
          names_differ = ap (λ ks. gets_clash ks ms) (sym (held_names ls Inner q.2)) ∙ apart.0;
          are_members = q.3;
          are_uses = refl;
        },
      )

-- ---- values

pub spells_built : (n : ℕ) (ls : List Disclosed) → AreFine ls → Builds ls (Spells n ls) (spelled n ls)
spells_built n ls fine null t sound ok h = ([], (cc, refl))
spells_built n ls fine (boolean b) t sound ok h = ([], (cc, refl))
spells_built n ls fine (number x) t sound ok h = ([], (cc, refl))
spells_built n ls fine (string s) t sound ok h = ([], (cc, refl))
spells_built zero ls fine (array ds) t sound ok h = absurd (cc)
spells_built zero ls fine (object ms) t sound ok h = absurd (cc)
spells_built (suc n) ls fine (array ds) t sound ok h =
    let a = split_map (λ es. ListOf (has_placeholder ds) (elements_of es))
    (spelled_elements (spelled n ls) ls ds) t h in
    let claims = (and_parts (not (list_any (λ m. m) (element_marks (plain_elements ds))) || false)
    (are_claims (plain_elements ds)) sound).1 in
    let b = elements_built ls (Spells n ls) (spelled n ls)
    (spells_built n ls fine) fine ds a.0 claims ok.0 ok.1 a.1 in
    (b.0, (a.0, b.1, sym a.2))
spells_built (suc n) ls fine (object ms) t sound ok h =
    let a = split_map (λ ns. RecordOf (members_of ns)) (spelled_members false (spelled n ls) ls ms) t h in
    let b = members_built ls (Spells n ls) (spelled n ls) (spells_built n ls fine) fine false ms a.0 sound
    (leaves_inner ms) ok.0 ok.1 a.1 in
    (b.0, (a.0, b.1, sym a.2))
