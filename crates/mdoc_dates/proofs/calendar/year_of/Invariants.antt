use Rattle.std.proofs.Common.{◌≡◌, ◌-◌}
use Rattle.mdoc_dates.specs.Tdate.{year_of}
use Rattle.mdoc_dates.proofs.calendar.year_of.Given as goal

abbrev pub invariant-loop-year : goal.invariant-loop-year
invariant-loop-year l = year_of (10_000 - l.year) l.year l.left ≡ year_of 8030 1970 l.days
