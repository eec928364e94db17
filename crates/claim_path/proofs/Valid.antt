-- A JSON value that breaks no rule reads as a path of 1 to 16 steps, or as 1 to 32 values.
use Rattle.std.proofs.lemmas.Bool.Decides.{nat_tests}
use Rattle.std.proofs.Common.{◌≡◌, ℕ, suc, ◌<◌, ◌≤◌, ◌||◌, ◌&&◌, Bool, true, false, not, List, [], ◌∷◌}
use Rattle.std.proofs.Common.{length, is_some, is_none, nat_lt, filter_map, Option, Some, None, arith, refl}
use Rattle.std.proofs.Common.{ap, ◌∙◌}
use Rattle.std.specs.Prelude.{◌==◌}
use Rattle.std.specs.List.{list_all, cons_option}
use Rattle.serde_json.specs.Data.{Data}
use Rattle.serde_json.specs.Find.{as_array}
use Rattle.base_forms.specs.Rules.{rule, first}
use Rattle.json_forms.specs.Look.{elements_of, is_empty}
use Rattle.claim_path.specs.Path.{IsPath, IsValues}
use Rattle.claim_path.specs.Read.{step_of, are_steps, path_rule, steps_of, scalar_of, are_scalars}
use Rattle.claim_path.specs.Read.{values_rule, scalars_of}

-- where a table answers no rule, its first is not broken, and neither are the others
pub rest_unbroken : (n : ℕ) (b : Bool) (rs : List (Option ℕ)) → first (rule n b ∷ rs) ≡ None
    → (b ≡ false) × (first rs ≡ None)
unfolding rule
rest_unbroken n true rs e = absurd cc
rest_unbroken n false rs e = (refl, e)

-- the same of a table whose first part is a table
pub parts_unbroken : (r : Option ℕ) (rs : List (Option ℕ)) → first (r ∷ rs) ≡ None
    → (r ≡ None) × (first rs ≡ None)
parts_unbroken None rs e = (refl, e)
parts_unbroken (Some n) rs e = absurd cc

pub rule_unbroken : (n : ℕ) (b : Bool) → rule n b ≡ None → b ≡ false
unfolding rule
rule_unbroken n true e = absurd cc
rule_unbroken n false e = refl

pub neither : (a b : Bool) → (a || b) ≡ false → (a ≡ false) × (b ≡ false)
neither true b e = absurd cc
neither false b e = (refl, e)

pub not_false : (b : Bool) → not b ≡ false → b ≡ true
not_false true e = refl
not_false false e = absurd cc

-- a list that is not empty has elements
pub some_tested : (n : ℕ) → (n == 0) ≡ false → 0 < n
some_tested n e = grind (arith, nat_tests)

-- one that is not over a limit is within it
pub few_tested : (most n : ℕ) → nat_lt most n ≡ false → n ≤ most
few_tested most n e = grind (arith, nat_tests)

both_true : (a b : Bool) → (a && b) ≡ true → (a ≡ true) × (b ≡ true)
both_true true b e = (refl, e)
both_true false b e = absurd cc

kept : {B : Type 0} (r : Option B) (ys : List B) → is_some r ≡ true
    → length (cons_option r ys) ≡ suc (length ys)
kept None ys e = absurd cc
kept (Some y) ys e = refl

-- nothing is passed over where each element gives something
pub length-filter_map : {A B : Type 0} (f : A → Option B) (xs : List A)
    → list_all (λ x. is_some (f x)) xs ≡ true → length (filter_map f xs) ≡ length xs
length-filter_map f [] e = refl
length-filter_map f (x ∷ xs) e =
    let b = both_true (is_some (f x)) (list_all (λ y. is_some (f y)) xs) e in
    kept (f x) (filter_map f xs) b.0 ∙ ap suc (length-filter_map f xs b.1)

pub valid_path : (d : Data) → path_rule d ≡ None → IsPath (steps_of d)
valid_path d e =
    let ds = elements_of d in
    let a = rest_unbroken 1 (is_none (as_array d)) _ e in
    let b = rest_unbroken 2 (is_empty ds) _ a.1 in
    let c = rest_unbroken 3 (not (are_steps ds)) _ b.1 in
    let l = rest_unbroken 4 (nat_lt 16 (length ds)) _ c.1 in
    let same = length-filter_map step_of ds (not_false _ c.0) in
    (omega (arith, some_tested (length ds) b.0, same), omega (arith, few_tested 16 (length ds) l.0, same))

pub valid_values : (d : Data) → values_rule d ≡ None → IsValues (scalars_of d)
valid_values d e =
    let ds = elements_of d in
    let a = neither _ (nat_lt 32 (length ds)) (rule_unbroken 1 _ e) in
    let b = neither (is_empty ds) (not (are_scalars ds)) a.0 in
    let same = length-filter_map scalar_of ds (not_false _ b.1) in
    (omega (arith, some_tested (length ds) b.0, same), omega (arith, few_tested 32 (length ds) a.1, same))
