-- The values of elements can be written: their integers have 64 bits, their texts are UTF-8, the names of
-- their objects ascend, and they have few levels.
use Rattle.std.proofs.Common.{◌≡◌, ◌≤◌, ℕ, zero, suc, Bool, true, false, cond, List, ◌∷◌, codes, refl, sym}
use Rattle.std.proofs.Common.{ap, ◌∙◌, arith, subst}
use Rattle.std.specs.Prelude.{Result, Ok, Err, nat_lt}
use Rattle.std.specs.Str.{bytes_eq}
use Rattle.std.proofs.lemmas.Bool.{and_parts, or_parts}
use Rattle.serde_json.specs.Data.{Num, unsigned, negative, float, Data, null, boolean, number, string, array}
use Rattle.serde_json.specs.Data.{object, Items, no_items, item, Members as Fields, no_members as no_fields}
use Rattle.serde_json.specs.Data.{member as field}
use Rattle.serde_json.specs.Find.{is_float}
use Rattle.serde_json.specs.Written.{has_float, items_have_float, members_have_float}
use Rattle.base_forms.specs.Base16.{hex_read}
use Rattle.json_forms.specs.Look.{is_object}
use Rattle.claim_tree.specs.Tree.{is_claim, are_claims, hold_claims, ascend, member_names}
use Rattle.claim_tree.specs.Plain.{plain, plain_elements, plain_members as plain_fields}
use Rattle.mdoc_written.specs.Element.{Standing, byte_string, full_date, itself, bytes_or_itself}
use Rattle.mdoc_written.specs.Element.{stands_for}
use Rattle.mdoc_written.specs.Laws.{IsText, IsInteger, names_of, CanStand, IsElement, AreElements, AreMembers}
use Rattle.mdoc_object.specs.Namespaces.{elements_in}
use Rattle.mdoc_issue.specs.Spec.{IsNamespace, AreNamespaces}
use Rattle.spec_forms.proofs.Tables.{at_most}
use Rattle.mdoc_spec.specs.Elements.{are_namespaces, standing_levels, levels, items_levels, members_levels}
use Rattle.mdoc_spec.specs.Elements.{has_deep_element}
use Rattle.mdoc_spec.specs.code.Texts.{IsSized, IsStored, AreStored, HoldStored}

integer : (n : Num) → is_float n ≡ false → IsSized n → IsInteger n
integer (unsigned n) e h = h
integer (negative z) e h = h
integer (float x) e h = absurd (cc e)

pub same_names : (ms : Fields) → member_names (plain_fields ms) ≡ names_of ms
same_names no_fields = refl
same_names (field k d ms) = ap (λ ks. k ∷ ks) (same_names ms)

-- ---- what an object stands for

bytes_no_date : (r : Result (List ℕ) ℕ) (text : List ℕ) → bytes_or_itself r ≡ full_date text → ⊥
bytes_no_date (Ok bytes) text e = cc
bytes_no_date (Err rule) text e = cc

date_by : (b c : Bool) (text found : List ℕ)
    → cond b (bytes_or_itself (hex_read text)) (cond c (full_date text) itself) ≡ full_date found
    → text ≡ found
date_by true c text found e = absurd (bytes_no_date (hex_read text) found e)
date_by false true text found e = cc
date_by false false text found e = cc

date_text : (ms : Fields) (text : List ℕ) → HoldStored ms → stands_for ms ≡ full_date text → IsText text
date_text no_fields text h e = cc
date_text (field k null ms) text h e = cc
date_text (field k (boolean b) ms) text h e = cc
date_text (field k (number n) ms) text h e = cc
date_text (field k (array ds) ms) text h e = cc
date_text (field k (object fs) ms) text h e = cc
date_text (field k (string s) (field l d ms)) text h e = cc
date_text (field k (string s) no_fields) text h e =
    subst IsText (date_by (bytes_eq k (codes "$bytes")) (bytes_eq k (codes "$date")) s text e) h.1

can_stand : (s : Standing) (n : ℕ) (ms : Fields) → ((m : ℕ) → members_levels ms ≤ m → AreMembers ms m)
    → ((text : List ℕ) → s ≡ full_date text → IsText text) → standing_levels s (members_levels ms) ≤ n
    → CanStand s n (AreMembers ms)
can_stand (byte_string bytes) n ms inside date h = tt
can_stand (full_date text) zero ms inside date h = let none : ⊥ = omega arith in none
can_stand (full_date text) (suc n) ms inside date h = date text refl
can_stand itself zero ms inside date h = let none : ⊥ = omega arith in none
can_stand itself (suc n) ms inside date h = inside n (omega arith)

-- ---- values

mutual
  pub element_from : (d : Data) (n : ℕ) → is_claim (plain d) ≡ true → has_float d ≡ false → IsStored d
      → levels d ≤ n → IsElement d n
  element_from null n c w s h = tt
  element_from (boolean b) n c w s h = tt
  element_from (number x) n c w s h = integer x w s
  element_from (string t) n c w s h = s
  element_from (array ds) zero c w s h = let none : ⊥ = omega arith in none
  element_from (array ds) (suc n) c w s h =
      elements_from ds n (and_parts _ (are_claims (plain_elements ds)) c).1 w s (omega arith)
  element_from (object ms) n c w s h =
      let both = and_parts (ascend (member_names (plain_fields ms))) (hold_claims (plain_fields ms)) c in (
        sym (ap ascend (same_names ms)) ∙ both.0,
        can_stand (stands_for ms) n ms (λ m few. members_from ms m both.1 w s few)
            (λ text e. date_text ms text s e) h,
      )

  elements_from : (ds : Items) (n : ℕ) → are_claims (plain_elements ds) ≡ true → items_have_float ds ≡ false
      → AreStored ds → items_levels ds ≤ n → AreElements ds n
  elements_from no_items n c w s h = tt
  elements_from (item d ds) n c w s h =
      let claims = and_parts (is_claim (plain d)) (are_claims (plain_elements ds)) c in
      let whole = or_parts (has_float d) (items_have_float ds) w in
      let here : levels d ≤ n = omega arith in
      let rest : items_levels ds ≤ n = omega arith in
      (element_from d n claims.0 whole.0 s.0 here, elements_from ds n claims.1 whole.1 s.1 rest)

  pub members_from : (ms : Fields) (n : ℕ) → hold_claims (plain_fields ms) ≡ true
      → members_have_float ms ≡ false → HoldStored ms → members_levels ms ≤ n → AreMembers ms n
  members_from no_fields n c w s h = tt
  members_from (field k d ms) n c w s h =
      let claims = and_parts (is_claim (plain d)) (hold_claims (plain_fields ms)) c in
      let whole = or_parts (has_float d) (members_have_float ms) w in
      let here : levels d ≤ n = omega arith in
      let rest : members_levels ms ≤ n = omega arith in
      (s.0, element_from d n claims.0 whole.0 s.1 here, members_from ms n claims.1 whole.1 s.2 rest)

-- ---- namespaces

namespace_from : (d : Data) → is_object d ≡ true → is_claim (plain d) ≡ true → has_float d ≡ false
    → IsStored d → nat_lt 31 (members_levels (elements_in d)) ≡ false → IsNamespace d
namespace_from null o c w s h = absurd (cc o)
namespace_from (boolean b) o c w s h = absurd (cc o)
namespace_from (number n) o c w s h = absurd (cc o)
namespace_from (string t) o c w s h = absurd (cc o)
namespace_from (array ds) o c w s h = absurd (cc o)
namespace_from (object ms) o c w s h =
    let both = and_parts (ascend (member_names (plain_fields ms))) (hold_claims (plain_fields ms)) c in (
      sym (ap ascend (same_names ms)) ∙ both.0,
      members_from ms 31 both.1 w s (at_most 31 (members_levels ms) h),
    )

pub namespaces_from : (ms : Fields) → are_namespaces ms ≡ true → hold_claims (plain_fields ms) ≡ true
    → members_have_float ms ≡ false → HoldStored ms → has_deep_element ms ≡ false → AreNamespaces ms
namespaces_from no_fields o c w s h = tt
namespaces_from (field k d ms) o c w s h =
    let objects = and_parts (is_object d) (are_namespaces ms) o in
    let claims = and_parts (is_claim (plain d)) (hold_claims (plain_fields ms)) c in
    let whole = or_parts (has_float d) (members_have_float ms) w in
    let few = or_parts (nat_lt 31 (members_levels (elements_in d))) (has_deep_element ms) h in (
      s.0,
      namespace_from d objects.0 claims.0 whole.0 s.1 few.0,
      namespaces_from ms objects.1 claims.1 whole.1 s.2 few.1,
    )
