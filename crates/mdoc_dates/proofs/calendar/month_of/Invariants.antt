use Rattle.std.proofs.Common.{◌≡◌, ◌-◌, pos}
use Rattle.mdoc_dates.specs.Tdate.{month_of}
use Rattle.mdoc_dates.proofs.calendar.month_of.Given as goal

abbrev pub invariant-loop-month : goal.invariant-loop-month
invariant-loop-month l =
    month_of (pos l.year) (12 - l.month) l.month l.left ≡ month_of (pos l.year) 11 1 l.days
