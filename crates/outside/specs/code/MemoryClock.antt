-- What a clock in memory holds.
use Rattle.std.specs.Prelude.{ℕ, List, [], ◌∷◌, drop, Option, Some, None}
use Rattle.outside.specs.declared.memory_clock.MemoryClock.{MemoryClock}
use Rattle.outside.specs.Clock.{ClockState}

-- the moments still to come
abbrev pub moments_in : MemoryClock → List ℕ
moments_in clock = drop clock.given clock.moments.items

-- how many calls came past the last, up to 2^64 - 1
abbrev pub faults_of : MemoryClock → ℕ
faults_of clock = clock.faults

-- It tells all.
abbrev pub state_of : MemoryClock → ClockState
state_of clock = record { moments = Some (moments_in clock); faults = faults_of clock }

abbrev pub first : List ℕ → Option ℕ
first [] = None
first (moment ∷ moments) = Some moment

abbrev pub later : List ℕ → List ℕ
later [] = []
later (moment ∷ moments) = moments
