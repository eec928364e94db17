-- A table of which no rule is broken.
use Rattle.std.proofs.Common.{◌≡◌, ◌≤◌, ℕ, Bool, true, false, cond, List, ◌∷◌, Option, Some, None, refl}
use Rattle.std.proofs.Common.{arith}
use Rattle.std.specs.Prelude.{nat_lt}
use Rattle.base_forms.specs.Rules.{rule, first}

no_rule_at : (n : ℕ) (b : Bool) (rest : List (Option ℕ)) → first (cond b (Some n) None ∷ rest) ≡ None
    → (b ≡ false) × (first rest ≡ None)
no_rule_at n true rest e = cc
no_rule_at n false rest e = (refl, e)

-- its first rule is not broken, and none of the rest
pub no_rule : (n : ℕ) (b : Bool) (rest : List (Option ℕ)) → first (rule n b ∷ rest) ≡ None
    → (b ≡ false) × (first rest ≡ None)
unfolding rule
no_rule n b rest e = no_rule_at n b rest e

-- a limit that is not broken
pub at_most : (n m : ℕ) → nat_lt n m ≡ false → m ≤ n
at_most n m e = grind arith
