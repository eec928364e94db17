-- What a credential spells is a claim tree: names ascend, and a list with a held element is loose.
use Rattle.std.proofs.Common.{◌≡◌, ℕ, zero, suc, Bool, true, false, not, ◌||◌, cond, List, [], ◌∷◌, ◌++◌}
use Rattle.std.proofs.Common.{Option, Some, None, option_map, option_and_then, refl, ap, ◌∙◌, subst}
use Rattle.std.specs.Prelude.{IfSome}
use Rattle.std.specs.Option.{is_some}
use Rattle.std.specs.List.{list_all, list_any}
use Rattle.std.specs.Str.{bytes_eq}
use Rattle.std.proofs.lemmas.Bool.{and_parts, and_from}
use Rattle.serde_json.specs.Data.{Data, null, boolean, number, string, array, object, unsigned, negative}
use Rattle.serde_json.specs.Data.{float, Items, no_items, item, Members as Fields, no_members as no_fields}
use Rattle.serde_json.specs.Data.{member as field}
use Rattle.serde_json.specs.Find.{as_object}
use Rattle.claim_tree.specs.Tree.{Name, Tree, ListOf, RecordOf, element_marks, member_names, ascend, is_claim}
use Rattle.claim_tree.specs.Tree.{are_claims, hold_claims}
use Rattle.claim_tree.specs.Plain.{plain, plain_elements, plain_members as plain_fields}
use Rattle.base_forms.specs.Texts.{Utf8, is_among}
use Rattle.sdjwt_digests.specs.Disclosures.{Disclosed, found}
use Rattle.sdjwt_digests.specs.DigestSites.{placeholder, own_digests}
pub use Rattle.sdjwt_digests.proofs.ValueClaims.{IsSound, AreSound}
use Rattle.sdjwt_disclosures.proofs.PutMembers.{ascend-put, hold-put}
use Rattle.claim_tree.specs.Ascending.{names_of, below}
use Rattle.claim_tree.specs.Parts.{Part, Named, elements_of, members_of}
use Rattle.sdjwt_disclosures.specs.PutMember.{put_member}
use Rattle.sdjwt_disclosures.specs.DisclosedTree.{has_placeholder, disclosed_element, spelled_element}
use Rattle.sdjwt_disclosures.specs.DisclosedTree.{spelled_elements, left_out, plain_members, with_disclosure}
use Rattle.sdjwt_disclosures.specs.DisclosedTree.{with_disclosures, spelled_members, spelled, spelled_payload}

-- ---- what holds of what an `Option` has

some_map : {A B : Type 0} (P : A → Type 0) (Q : B → Type 0) (h : A → B) → ((a : A) → P a → Q (h a))
    → (o : Option A) → IfSome o P → IfSome (option_map h o) Q
some_map P Q h k None x = tt
some_map P Q h k (Some a) x = k a x

some_and_then : {A B : Type 0} (P : A → Type 0) (Q : B → Type 0) (h : A → Option B)
    → ((a : A) → P a → IfSome (h a) Q) → (o : Option A) → IfSome o P → IfSome (option_and_then h o) Q
some_and_then P Q h k None x = tt
some_and_then P Q h k (Some a) x = k a x

-- ---- disclosures whose values are claims

abbrev IsGood : Tree → Type 0
IsGood t = is_claim t ≡ true

abbrev Spells : (Data → Option Tree) → Type 0
Spells inner = (d : Data) → IsSound d → IfSome (inner d) IsGood

found_if : (b : Bool) (l : Disclosed) (o : Option Disclosed) → IsSound l.value
    → IfSome o (λ d. IsSound d.value) → IfSome (cond b (Some l) o) (λ d. IsSound d.value)
found_if true l o h rest = h
found_if false l o h rest = rest

pub found_sound : (x : Utf8) (ls : List Disclosed) → AreSound ls → IfSome (found x ls) (λ d. IsSound d.value)
found_sound x [] h = tt
found_sound x (l ∷ ls) h = found_if (bytes_eq l.digest x) l (found x ls) h.0 (found_sound x ls h.1)

-- ---- lists

-- the parts are claims, and none is held unless the list has a placeholder
abbrev ArePart : Bool → List Part → Type 0
ArePart hidden es = (are_claims (elements_of es) ≡ true)
    × ((not (list_any (λ m. m) (element_marks (elements_of es))) || hidden) ≡ true)

one_plain : (t : Tree) → IsGood t → ArePart false ((false, t) ∷ [])
one_plain t h = (and_from (is_claim t) true h refl, refl)

or_true : (b : Bool) → (b || true) ≡ true
or_true true = refl
or_true false = refl

one_held : (t : Tree) → IsGood t → ArePart true ((true, t) ∷ [])
one_held t h = (and_from (is_claim t) true h refl, refl)

claims-append : (xs ys : List Part) → are_claims (elements_of xs) ≡ true → are_claims (elements_of ys) ≡ true
    → are_claims (elements_of (xs ++ ys)) ≡ true
claims-append [] ys h k = k
claims-append (x ∷ xs) ys h k =
    let both = and_parts (is_claim x.1) (are_claims (elements_of xs)) h in
    and_from (is_claim x.1) (are_claims (elements_of (xs ++ ys))) both.0 (claims-append xs ys both.1 k)

held-append : (xs ys : List Part)
    → list_any (λ m. m) (element_marks (elements_of (xs ++ ys))) ≡
    (list_any (λ m. m) (element_marks (elements_of xs)) || list_any (λ m. m) (element_marks (elements_of ys)))
held-append [] ys = refl
held-append (x ∷ xs) ys = held_head x.0 _ _ _ (held-append xs ys) where
  held_head : (b c d e : Bool) → c ≡ (d || e) → (b || c) ≡ ((b || d) || e)
  held_head true c d e h = refl
  held_head false c d e h = h

both_marks : (a b c d : Bool) → (not a || c) ≡ true → (not b || d) ≡ true → (not (a || b) || (c || d)) ≡ true
both_marks true b true d h k = refl
both_marks true b false d h k = cc
both_marks false b true d h k = or_true (not b)
both_marks false b false d h k = k

parts-append : (a b : Bool) (xs ys : List Part) → ArePart a xs → ArePart b ys → ArePart (a || b) (xs ++ ys)
parts-append a b xs ys h k = (
  claims-append xs ys h.0 k.0,
  ap (λ m. not m || (a || b)) (held-append xs ys)
      ∙ both_marks (list_any (λ m. m) (element_marks (elements_of xs)))
      (list_any (λ m. m) (element_marks (elements_of ys))) a b h.1 k.1,
)

disclosed_part : (inner : Data → Option Tree) → Spells inner → (o : Option Disclosed)
    → IfSome o (λ d. IsSound d.value) → IfSome (disclosed_element inner o) (ArePart true)
disclosed_part inner good None h = (refl, refl)
disclosed_part inner good (Some l) h = named_part l.name where
  named_part : (n : Option Utf8)
      → IfSome (elim n [ None ↦ option_map (λ t. (true, t) ∷ []) (inner l.value) | Some k ↦ Some [] ])
      (ArePart true)
  named_part None =
      some_map IsGood (ArePart true) (λ t. (true, t) ∷ []) one_held (inner l.value) (good l.value h)
  named_part (Some k) = (refl, refl)

element_part : (inner : Data → Option Tree) → Spells inner → (ls : List Disclosed) → AreSound ls → (d : Data)
    → IsSound d → (o : Option Utf8)
    → IfSome (elim o [
      | None ↦ option_map (λ t. (false, t) ∷ []) (inner d)
      | Some x ↦ disclosed_element inner
          (found x ls)
    ]) (ArePart (is_some o))
element_part inner good ls all d h None =
    some_map IsGood (ArePart false) (λ t. (false, t) ∷ []) one_plain (inner d) (good d h)
element_part inner good ls all d h (Some x) = disclosed_part inner good (found x ls) (found_sound x ls all)

elements_parts : (inner : Data → Option Tree) → Spells inner → (ls : List Disclosed) → AreSound ls
    → (ds : Items) → are_claims (plain_elements ds) ≡ true
    → IfSome (spelled_elements inner ls ds) (ArePart (has_placeholder ds))
elements_parts inner good ls all no_items h = (refl, refl)
elements_parts inner good ls all (item d ds) h =
    let both = and_parts (is_claim (plain d)) (are_claims (plain_elements ds)) h in
    some_and_then (ArePart (is_some (placeholder d))) (ArePart (has_placeholder (item d ds))) _
    (λ e x. some_map (ArePart (has_placeholder ds)) (ArePart (has_placeholder (item d ds))) (λ es. e ++ es)
    (λ es y. parts-append (is_some (placeholder d)) (has_placeholder ds) e es x y)
    (spelled_elements inner ls ds) (elements_parts inner good ls all ds both.1))
    (spelled_element inner ls d) (element_part inner good ls all d both.0 (placeholder d))

list_claim : (hidden : Bool) (es : List Part) → ArePart hidden es → IsGood (ListOf hidden (elements_of es))
list_claim hidden es h =
    and_from (not (list_any (λ m. m) (element_marks (elements_of es))) || hidden)
    (are_claims (elements_of es)) h.1 h.0

-- ---- records

abbrev AreMembers : List Named → Type 0
AreMembers ns = (ascend (names_of ns) ≡ true) × (hold_claims (members_of ns) ≡ true)

-- plain members: their names are among those of the object, in their order
abbrev AreWithin : Fields → List Named → Type 0
AreWithin ms ns =
    ((p : Name → Bool) → list_all p (member_names (plain_fields ms)) ≡ true → list_all p (names_of ns) ≡ true)
    × AreMembers ns

kept_within : (k : Utf8) (d : Data) (ms : Fields) (ns : List Named) (t : Tree)
    → list_all (below k) (member_names (plain_fields ms)) ≡ true → IsGood t → AreWithin ms ns
    → AreWithin (field k d ms) ((k, false, t) ∷ ns)
kept_within k d ms ns t first good h = (
  λ p all. let both = and_parts (p k) (list_all p (member_names (plain_fields ms))) all in and_from (p k)
      (list_all p (names_of ns)) both.0 (h.0 p both.1),
  (
    and_from (list_all (below k) (names_of ns)) (ascend (names_of ns)) (h.0 (below k) first) (h.1).0,
    and_from (is_claim t) (hold_claims (members_of ns)) good (h.1).1,
  ),
)

left_within : (k : Utf8) (d : Data) (ms : Fields) (ns : List Named) → AreWithin ms ns
    → AreWithin (field k d ms) ns
left_within k d ms ns h =
    (λ p all. h.0 p (and_parts (p k) (list_all p (member_names (plain_fields ms))) all).1, h.1)

fields_within_at : (b : Bool) (is_payload : Bool) (inner : Data → Option Tree) → Spells inner
    → (k : Utf8) (d : Data) (ms : Fields) → list_all (below k) (member_names (plain_fields ms)) ≡ true
    → IsSound d
    → IfSome (plain_members is_payload inner ms) (AreWithin ms)
    → IfSome (cond b (plain_members is_payload inner ms)
    (option_and_then (λ t. option_map (λ ns. (k, false, t) ∷ ns) (plain_members is_payload inner ms))
    (inner d))) (AreWithin (field k d ms))
fields_within_at true is_payload inner good k d ms first h rest =
    within (plain_members is_payload inner ms) rest where
      within : (o : Option (List Named)) → IfSome o (AreWithin ms) → IfSome o (AreWithin (field k d ms))
      within None x = tt
      within (Some ns) x = left_within k d ms ns x
fields_within_at false is_payload inner good k d ms first h rest =
    some_and_then IsGood (AreWithin (field k d ms)) _
    (λ t x. some_map (AreWithin ms) (AreWithin (field k d ms)) (λ ns. (k, false, t) ∷ ns)
    (λ ns y. kept_within k d ms ns t first x y) (plain_members is_payload inner ms) rest) (inner d)
    (good d h)

fields_within : (is_payload : Bool) (inner : Data → Option Tree) → Spells inner → (ms : Fields)
    → ascend (member_names (plain_fields ms)) ≡ true → hold_claims (plain_fields ms) ≡ true
    → IfSome (plain_members is_payload inner ms) (AreWithin ms)
fields_within is_payload inner good no_fields up h = (λ p _. refl, (refl, refl))
fields_within is_payload inner good (field k d ms) up h =
    let order = and_parts (list_all (below k) (member_names (plain_fields ms)))
    (ascend (member_names (plain_fields ms))) up in
    let both = and_parts (is_claim (plain d)) (hold_claims (plain_fields ms)) h in
    fields_within_at (is_among k (left_out is_payload)) is_payload inner good k d ms order.0 both.0
    (fields_within is_payload inner good ms order.1 both.1)

disclosure_put : (inner : Data → Option Tree) → Spells inner → (o : Option Disclosed)
    → IfSome o (λ d. IsSound d.value) → (ns : List Named) → AreMembers ns
    → IfSome (with_disclosure inner o ns) AreMembers
disclosure_put inner good None h ns m = m
disclosure_put inner good (Some l) h ns m = named_put l.name where
  named_put : (n : Option Utf8)
      → IfSome (elim n [
        | None ↦ Some ns
        | Some k ↦ option_map (λ t. put_member (k, true, t) ns)
            (inner l.value)
      ]) AreMembers
  named_put None = m
  named_put (Some k) =
      some_map IsGood AreMembers (λ t. put_member (k, true, t) ns)
      (λ t x. (ascend-put (k, true, t) ns m.0, hold-put (k, true, t) ns x m.1)) (inner l.value)
      (good l.value h)

disclosures_put : (inner : Data → Option Tree) → Spells inner → (ls : List Disclosed) → AreSound ls
    → (xs : List Utf8) (ns : List Named) → AreMembers ns → IfSome (with_disclosures inner ls xs ns) AreMembers
disclosures_put inner good ls all [] ns m = m
disclosures_put inner good ls all (x ∷ xs) ns m =
    some_and_then AreMembers AreMembers (with_disclosures inner ls xs)
    (λ os y. disclosures_put inner good ls all xs os y) (with_disclosure inner (found x ls) ns)
    (disclosure_put inner good (found x ls) (found_sound x ls all) ns m)

members_good : (is_payload : Bool) (inner : Data → Option Tree) → Spells inner → (ls : List Disclosed)
    → AreSound ls → (ms : Fields) → IsSound (object ms)
    → IfSome (spelled_members is_payload inner ls ms) AreMembers
members_good is_payload inner good ls all ms h =
    let both = and_parts (ascend (member_names (plain_fields ms))) (hold_claims (plain_fields ms)) h in
    some_and_then (AreWithin ms) AreMembers (with_disclosures inner ls (own_digests ms))
    (λ ns x. disclosures_put inner good ls all (own_digests ms) ns x.1)
    (plain_members is_payload inner ms) (fields_within is_payload inner good ms both.0 both.1)

record_claim : (ns : List Named) → AreMembers ns → IsGood (RecordOf (members_of ns))
record_claim ns h = and_from (ascend (names_of ns)) (hold_claims (members_of ns)) h.0 h.1

-- ---- the whole

spelled_good : (n : ℕ) (ls : List Disclosed) → AreSound ls → Spells (spelled n ls)
spelled_good n ls all null h = refl
spelled_good n ls all (boolean b) h = refl
spelled_good n ls all (number (unsigned x)) h = refl
spelled_good n ls all (number (negative x)) h = refl
spelled_good n ls all (number (float x)) h = refl
spelled_good n ls all (string s) h = refl
spelled_good zero ls all (array ds) h = tt
spelled_good zero ls all (object ms) h = tt
spelled_good (suc n) ls all (array ds) h =
    some_map (ArePart (has_placeholder ds)) IsGood (λ es. ListOf (has_placeholder ds) (elements_of es))
    (list_claim (has_placeholder ds)) (spelled_elements (spelled n ls) ls ds)
    (elements_parts (spelled n ls) (spelled_good n ls all) ls all ds
    (and_parts (not (list_any (λ m. m) (element_marks (plain_elements ds))) || false)
    (are_claims (plain_elements ds)) h).1)
spelled_good (suc n) ls all (object ms) h =
    some_map AreMembers IsGood (λ ns. RecordOf (members_of ns)) record_claim
    (spelled_members false (spelled n ls) ls ms)
    (members_good false (spelled n ls) (spelled_good n ls all) ls all ms h)

object_good : (n : ℕ) (ls : List Disclosed) → AreSound ls → (d : Data) → IsSound d → (o : Option Fields)
    → as_object d ≡ o
    → IfSome (option_and_then (λ ms. spelled_members true (spelled n ls) ls ms) o)
    (λ ns. is_claim (RecordOf (members_of ns)) ≡ true)
object_good n ls all d h None e = tt
object_good n ls all d h (Some ms) e =
    goes (spelled_members true (spelled n ls) ls ms)
    (members_good true (spelled n ls) (spelled_good n ls all) ls all ms (object_sound d ms e h)) where
      goes : (o : Option (List Named)) → IfSome o AreMembers
          → IfSome o (λ ns. is_claim (RecordOf (members_of ns)) ≡ true)
      goes None x = tt
      goes (Some ns) x = record_claim ns x

      object_sound : (d : Data) (ms : Fields) → as_object d ≡ Some ms → IsSound d → IsSound (object ms)
      object_sound (object ns) ms e h =
          subst (λ (o : Option Fields). IfSome o (λ fs. IsSound (object fs))) e h
      object_sound null ms e h = cc
      object_sound (boolean b) ms e h = cc
      object_sound (number n) ms e h = cc
      object_sound (string s) ms e h = cc
      object_sound (array ds) ms e h = cc

-- the record of the members that a payload spells is a claim tree
pub payload_claim : (ls : List Disclosed) (d : Data) → AreSound ls → IsSound d
    → IfSome (spelled_payload ls d) (λ ns. is_claim (RecordOf (members_of ns)) ≡ true)
unfolding spelled_payload
payload_claim ls d all h = object_good 63 ls all d h (as_object d) refl
