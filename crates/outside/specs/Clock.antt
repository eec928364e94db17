-- A clock, and what one look at it answers.
use Rattle.std.specs.Prelude.{◌≡◌, ℕ, List, ◌∷◌, Option, option_map}
use Rattle.outside.specs.Calls.{Given, gave, failed, exhausted, Counts}

-- The moments still to come, in seconds since 1970-01-01T00:00:00Z, where the clock tells them; and a count
-- of faults.
pub record ClockState : Type 0 where
  pub moments : Option (List ℕ)
  pub faults : ℕ

-- The moment that is given was the first of those to come.
abbrev pub TakesFirst : Option (List ℕ) → Option (List ℕ) → Given ℕ → Type 0
TakesFirst old new (gave moment) = old ≡ option_map (λ later. moment ∷ later) new
TakesFirst old new failed = new ≡ old
TakesFirst old new exhausted = new ≡ old

-- The clock was asked for the time, once, and gave this.
pub record IsTold (old new : ClockState) (answer : Given ℕ) : Type 0 where
  pub first : TakesFirst old.moments new.moments answer
  pub counts : Counts old.faults new.faults answer
