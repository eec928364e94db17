-- The value of a disclosure that was read is a plain claim tree.
use Rattle.std.proofs.Common.{◌≡◌, ℕ, Bool, true, false, cond, not, ◌||◌, List, [], ◌∷◌, Option, Some, None}
use Rattle.std.proofs.Common.{option_map, sym, ap, ◌∙◌}
use Rattle.std.specs.Prelude.{⊤}
use Rattle.std.specs.List.{list_any}
use Rattle.std.specs.Str.{is_utf8}
use Rattle.std.proofs.lemmas.Bool.{and_parts}
use Rattle.std.proofs.lemmas.Option.{option_and_then_some}
use Rattle.serde_json.specs.Data.{Data, null, boolean, number, string, array, object, Items, no_items, item}
use Rattle.serde_json.specs.Find.{as_str}
use Rattle.serde_json.specs.Read.{read}
use Rattle.json_forms.specs.Look.{elements_of, listed, is_text}
use Rattle.json_forms.specs.Text.{json_of}
use Rattle.claim_tree.specs.Tree.{element_marks, is_claim, are_claims}
use Rattle.claim_tree.specs.Plain.{plain, plain_elements}
use Rattle.claim_tree.proofs.Readings.{is_claim-read}
use Rattle.base_forms.specs.Url64.{url64_bytes}
use Rattle.base_forms.specs.Texts.{Utf8}
use Rattle.sdjwt_digests.specs.Disclosures.{Disclosed, json_in, salted}

abbrev pub IsSound : Data → Type 0
IsSound d = is_claim (plain d) ≡ true

abbrev pub AreSound : List Disclosed → Type 0
AreSound [] = ⊤
AreSound (l ∷ ls) = IsSound l.value × AreSound ls

json_claim_at : (b : Bool) (bytes : List ℕ) (d : Data) → cond b (read bytes) None ≡ Some d → IsSound d
json_claim_at true bytes d e = is_claim-read bytes d e
json_claim_at false bytes d e = cc

pub json_claim : (bytes : List ℕ) (d : Data) → json_of bytes ≡ Some d → IsSound d
json_claim bytes d e = json_claim_at (is_utf8 bytes) bytes d e

pub json_in-claim : (text : Utf8) (d : Data) → json_in text ≡ Some d → IsSound d
json_in-claim text d e =
    option_and_then_some json_of (url64_bytes text) d e (λ bytes _ h. json_claim bytes d h)

abbrev AllSound : List Data → Type 0
AllSound [] = Unit {0}
AllSound (d ∷ ds) = IsSound d × AllSound ds

listed_sound : (ds : Items) → are_claims (plain_elements ds) ≡ true → AllSound (listed ds)
listed_sound no_items h = tt
listed_sound (item d ds) h =
    let both = and_parts (is_claim (plain d)) (are_claims (plain_elements ds)) h in
    (both.0, listed_sound ds both.1)

elements_sound : (d : Data) → IsSound d → AllSound (elements_of d)
elements_sound null h = tt
elements_sound (boolean b) h = tt
elements_sound (number n) h = tt
elements_sound (string s) h = tt
elements_sound (object ms) h = tt
elements_sound (array ds) h =
    listed_sound ds (and_parts (not (list_any (λ m. m) (element_marks (plain_elements ds))) || false)
    (are_claims (plain_elements ds)) h).1

of_pair : {A B : Type 0} (p q : A × B) → Some p ≡ Some q → p.1 ≡ q.1
of_pair p q e = ap (λ o. second o p.1) e where
  second : {A B : Type 0} → Option (A × B) → B → B
  second None b = b
  second (Some p) b = p.1

salted_two : (b : Bool) (v : Data) (p : Option Utf8 × Data) → cond b (Some (None, v)) None ≡ Some p
    → IsSound v → IsSound p.1
salted_two true v p e h = sym (ap (λ d. is_claim (plain d)) (of_pair (None, v) p e)) ∙ h
salted_two false v p e h = cc

salted_three : (b : Bool) (o : Option Utf8) (v : Data) (p : Option Utf8 × Data)
    → cond b (option_map (λ (k : Utf8). (Some k, v)) o) None ≡ Some p → IsSound v → IsSound p.1
salted_three true None v p e h = cc
salted_three true (Some k) v p e h = sym (ap (λ d. is_claim (plain d)) (of_pair (Some k, v) p e)) ∙ h
salted_three false o v p e h = cc

salted_sound : (ds : List Data) (p : Option Utf8 × Data) → salted ds ≡ Some p → AllSound ds → IsSound p.1
salted_sound [] p e h = cc
salted_sound (a ∷ []) p e h = cc
salted_sound (a ∷ b ∷ []) p e h = salted_two (is_text a) b p e (h.1).0
salted_sound (a ∷ b ∷ c ∷ []) p e h = salted_three (is_text a) (as_str b) c p e ((h.1).1).0
salted_sound (a ∷ b ∷ c ∷ d ∷ ds) p e h = cc

pub salted-claim : (d : Data) (p : Option Utf8 × Data) → IsSound d → salted (elements_of d) ≡ Some p
    → IsSound p.1
salted-claim d p h e = salted_sound (elements_of d) p e (elements_sound d h)
