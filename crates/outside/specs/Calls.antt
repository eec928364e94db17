-- What a call of an object comes to, and what its count of faults owes to that.
use Rattle.std.specs.Prelude.{◌≡◌, ◌⊎◌, ℕ, ◌≤◌, List, [], ◌∷◌, ◌++◌, Option, option_map, Result, Ok, Err}
use Rattle.outside.specs.Faults.{Rose}
use Rattle.outside.specs.declared.error.Failed.{Failed}

-- `gave answer`, `failed`: the object failed, `exhausted`: memory ran out
pub data Given (A : Type 0) : Type 0 where
  gave : A → Given A
  failed : Given A
  exhausted : Given A

-- of a call that takes no memory
abbrev pub given : {A : Type 0} → Result A Failed → Given A
given (Ok value) = gave value
given (Err error) = failed

-- A count has risen where the object failed, and is as it was where it did not.
abbrev pub Counts : {A : Type 0} → ℕ → ℕ → Given A → Type 0
Counts before after (gave answer) = after ≡ before
Counts before after failed = Rose before after × (before ≤ after)
Counts before after exhausted = after ≡ before

-- A record that is told grows by one more entry, once; it may be as it was only where memory ran out.
abbrev pub Grows : {X A : Type 0} → Option (List X) → Option (List X) → X → Given A → Type 0
Grows old new entry (gave answer) = new ≡ option_map (λ told. told ++ entry ∷ []) old
Grows old new entry failed = new ≡ option_map (λ told. told ++ entry ∷ []) old
Grows old new entry exhausted = (new ≡ old) ⊎ (new ≡ option_map (λ told. told ++ entry ∷ []) old)
