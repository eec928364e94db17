-- Where no rule on the holder is broken, the key's value has no number that is not whole.
use Rattle.std.proofs.Common.{◌≡◌, ℕ, Bool, true, false, not, [], ◌∷◌, Option, Some, None, codes, refl, sym}
use Rattle.std.proofs.Common.{ap, ◌∙◌}
use Rattle.std.proofs.lemmas.Bool.{and_parts, cases_Bool}
use Rattle.std.proofs.Common.{inl, inr}
use Rattle.serde_json.specs.Data.{Data}
use Rattle.serde_json.specs.Find.{get}
use Rattle.serde_json.specs.Written.{has_float}
use Rattle.base_forms.specs.Rules.{rule, first}
use Rattle.json_forms.specs.Look.{is_wrong, is_object}
use Rattle.sdjwt_facts.specs.Facts.{is_key, is_holder, facts_rule}

third : (a b c : Bool) → first {R = ℕ} (rule 15 a ∷ rule 16 b ∷ rule 17 c ∷ []) ≡ None → c ≡ false
unfolding rule
third true b c e = cc
third false true c e = cc
third false false true e = cc
third false false false e = refl

right_there : (form : Data → Bool) (o : Option Data) (d : Data) → o ≡ Some d → is_wrong form o ≡ false
    → form d ≡ true
right_there form None d e h = cc
right_there form (Some x) d e h = elim (cases_Bool (form d)) [
  | inl so ↦ so
  | inr not_so ↦ absurd (wrong (sym (ap (is_wrong form) e) ∙ h) not_so)
] where
  wrong : not (form d) ≡ false → form d ≡ false → ⊥
  wrong p q = let r : true ≡ false = sym (ap not q) ∙ p in cc

not_true : (b : Bool) → not b ≡ true → b ≡ false
not_true true h = cc
not_true false h = refl

pub key_is_whole : (payload cnf jwk : Data) → facts_rule payload ≡ None → get (codes "cnf") payload ≡ Some cnf
    → get (codes "jwk") cnf ≡ Some jwk → has_float jwk ≡ false
unfolding facts_rule
key_is_whole payload cnf jwk e here there =
    let holder : is_holder cnf ≡ true =
    right_there is_holder (get (codes "cnf") payload) cnf here (third _ _ _ e) in
    let inside = (and_parts (is_object cnf) (not (is_wrong is_key (get (codes "jwk") cnf))) holder).1 in
    let key : is_key jwk ≡ true =
    right_there is_key (get (codes "jwk") cnf) jwk there
    (not_true (is_wrong is_key (get (codes "jwk") cnf)) inside) in
    not_true (has_float jwk) (and_parts (is_object jwk) (not (has_float jwk)) key).1
