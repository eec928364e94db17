-- Putting a list in order by inserting its elements one after another, from the last. Elements of which
-- neither
-- is less than the other stay in their order.
use Rattle.std.specs.Prelude.{ℕ, Bool, cond, List, [], ◌∷◌}
use Rattle.std.specs.Ordering.{nat_cmp, is_lt}
use Rattle.base_forms.specs.Texts.{Utf8}

-- an element in its place: before the first that is not less
abbrev pub put_by : {X : Type 0} → (X → X → Bool) → X → List X → List X
put_by lt x [] = x ∷ []
put_by lt x (y ∷ ys) = cond (lt y x) (y ∷ put_by lt x ys) (x ∷ y ∷ ys)

abbrev pub ordered_by : {X : Type 0} → (X → X → Bool) → List X → List X
ordered_by lt [] = []
ordered_by lt (x ∷ xs) = put_by lt x (ordered_by lt xs)

-- disclosures in the order of their numbers
abbrev pub told_in_order : List (ℕ × Utf8 × Utf8) → List (ℕ × Utf8 × Utf8)
told_in_order = ordered_by (λ p q. is_lt (nat_cmp p.0 q.0))
