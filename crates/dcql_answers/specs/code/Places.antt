-- The place of the least fit among fits that ascend.
use Rattle.std.specs.Prelude.{ℕ, ◌==◌, ◌&&◌, ◌||◌, nat_lt, Bool, Option, Some, None, if◌then◌else◌}
use Rattle.dcql_answers.specs.declared.pick.Pick.{Pick}
use Rattle.dcql_answers.specs.declared.fits.Fit.{Fit}
use Rattle.dcql_answers.specs.Fits.{pick_of}

-- a fit that is before this credential query, credential and claim set
abbrev pub is_before : ℕ → ℕ → ℕ → Fit → Bool
is_before i c s f =
    nat_lt f.query i || ((f.query == i) && (nat_lt f.credential c || ((f.credential == c) && nat_lt f.set s)))

-- the pick of a fit, where there is one and it is of query i
abbrev pub pick_for : ℕ → Option Fit → Option Pick
pick_for i None = None
pick_for i (Some f) = if f.query == i then Some (pick_of f) else None
