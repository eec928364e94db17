-- Values that are read one after another, each of which may be missing.
use Rattle.std.proofs.Common.{◌≡◌, List, [], ◌∷◌, ◌++◌, Option, Some, None, option_map, refl, sym, ap}
use Rattle.std.proofs.Common.{append_assoc}
use Rattle.sdjwt_spec.specs.Addresses.{all_some}

-- the values that were read, and after them the rest
abbrev pub with_rest : {A : Type 0} → List A → List (Option A) → Option (List A)
with_rest xs os = option_map (λ ys. xs ++ ys) (all_some os)

step_at : {A : Type 0} (xs : List A) (x : A) (r : Option (List A))
    → option_map (λ ys. xs ++ ys) (option_map (λ ys. x ∷ ys) r) ≡ option_map (λ ys. (xs ++ x ∷ []) ++ ys) r
step_at xs x None = refl
step_at xs x (Some ys) = ap Some (sym (append_assoc xs (x ∷ []) ys))

pub one_more : {A : Type 0} (xs : List A) (x : A) (os : List (Option A))
    → with_rest xs (Some x ∷ os) ≡ with_rest (xs ++ x ∷ []) os
one_more xs x os = step_at xs x (all_some os)
