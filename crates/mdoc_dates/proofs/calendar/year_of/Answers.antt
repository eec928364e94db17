use Rattle.std.proofs.Common.{◌≡◌, ◌∙◌, ℕ, ◌-◌, ◌<◌, ◌+◌, ◌≤◌, pos, sym, ap, arith}
use Rattle.jiff_core.specs.Calendar.{days_in_year}
use Rattle.mdoc_dates.proofs.Counting.{year_here, year_later, year_last}
use Rattle.mdoc_dates.proofs.calendar.year_of.Goals as goal

pub returns-then-left-length : goal.returns-then-left-length
returns-then-left-length c =
    let y = c.loop-year.year in
    let inside : c.loop-year.left < days_in_year (pos y) =
    omega (arith, c.if-left-length.true, c.days_in_year-length.ensures) in
    sym (year_here (10_000 - y) y c.loop-year.left (omega (arith, c.loop-year-test.true)) inside)
    ∙ c.loop-year.invariant

pub loop-year-preserved : goal.loop-year-preserved
loop-year-preserved c =
    let y = c.loop-year.year in
    let more : days_in_year (pos y) ≤ c.loop-year.left =
    omega (arith, c.if-left-length.false, c.days_in_year-length.ensures) in
    rw c.days_in_year-length.ensures
    (year_later (10_000 - y) (10_000 - (y + 1)) y c.loop-year.left
    (omega (arith, c.loop-year-test.true)) more
    ∙ c.loop-year.invariant)

pub returns : goal.returns
returns c =
    let y = c.loop-year.year in
    let last : y ≡ 10_000 = omega (arith, c.loop-year-test.false, c.loop-year.auto) in
    ap (λ (n : ℕ). (n, c.loop-year.left)) (sym last)
    ∙ sym (year_last (10_000 - y) y c.loop-year.left (omega (arith, last)))
    ∙ c.loop-year.invariant
