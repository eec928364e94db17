-- Counts of faults. Each object counts how often it failed, up to 2^64 - 1, so that a contract can say that a
-- failure was answered only where the object failed.
use Rattle.std.specs.Prelude.{ℕ, ◌+◌, ◌-◌, ◌^◌, ◌≤◌, min, Option, Some, None}

-- the count after one more, where 2^64 - 1 stays
abbrev pub next : ℕ → ℕ
next count = min (count + 1) (2 ^ 64 - 1)

-- the count after a call that fails where it finds nothing
abbrev pub counted : {A : Type 0} → ℕ → Option A → ℕ
counted faults None = next faults
counted faults (Some found) = faults

-- the count rose, or stands at its end
abbrev pub Rose : ℕ → ℕ → Type 0
Rose before now = next before ≤ now
