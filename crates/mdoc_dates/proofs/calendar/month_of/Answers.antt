use Rattle.std.proofs.Common.{◌≡◌, ◌∙◌, ℕ, ◌-◌, ◌<◌, ◌+◌, ◌≤◌, pos, sym, ap, arith}
use Rattle.jiff_core.specs.Calendar.{days_in_month}
use Rattle.mdoc_dates.proofs.Counting.{month_here, month_later, month_last}
use Rattle.mdoc_dates.proofs.calendar.month_of.Goals as goal

pub returns-then-left-length : goal.returns-then-left-length
returns-then-left-length c =
    let y = pos c.args.year in
    let m = c.loop-month.month in
    let inside : c.loop-month.left < days_in_month y m =
    omega (arith, c.if-left-length.true, c.days_in_month-length.ensures) in
    sym (month_here y (12 - m) m c.loop-month.left (omega (arith, c.loop-month-test.true)) inside)
    ∙ c.loop-month.invariant

pub loop-month-preserved : goal.loop-month-preserved
loop-month-preserved c =
    let y = pos c.args.year in
    let m = c.loop-month.month in
    let more : days_in_month y m ≤ c.loop-month.left =
    omega (arith, c.if-left-length.false, c.days_in_month-length.ensures) in
    rw c.days_in_month-length.ensures
    (month_later y (12 - m) (12 - (m + 1)) m c.loop-month.left
    (omega (arith, c.loop-month-test.true)) more
    ∙ c.loop-month.invariant)

pub returns : goal.returns
returns c =
    let y = pos c.args.year in
    let m = c.loop-month.month in
    let last : m ≡ 12 = omega (arith, c.loop-month-test.false, c.loop-month.auto) in
    ap (λ (n : ℕ). (n, c.loop-month.left)) (sym last)
    ∙ sym (month_last y (12 - m) m c.loop-month.left (omega (arith, last)))
    ∙ c.loop-month.invariant
