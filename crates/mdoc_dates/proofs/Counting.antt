-- Counting years and months gives the day of the calendar.
use Rattle.std.proofs.Common.{◌≡◌, ℕ, zero, suc, ◌+◌, ◌-◌, ◌<◌, ◌≤◌, Bool, true, false, ℤ, pos, nat_lt, cond}
use Rattle.std.proofs.Common.{refl, ap, arith, unsigned_abs}
use Rattle.std.proofs.lemmas.Bool.Decides.{nat_tests}
use Rattle.jiff_core.specs.Calendar.{days_in_year, days_in_month, day_count, days_from_civil}
use Rattle.jiff_core.proofs.CalendarLemmas.{day_count-next_year, day_count-next_month, day_count-last_of_year}
use Rattle.jiff_core.proofs.CalendarLemmas.{day_count-day, day_count-end, day_count-epoch}
use Rattle.jiff_core.proofs.SignedLemmas.{signed_arith}
use Rattle.mdoc_dates.specs.Tdate.{Day, year_of, month_of, day_in, date_of}

-- ---- years

-- the days before 1 January of a year
abbrev pub first_day : ℕ → ℕ
first_day y = day_count (pos y) 1 1

next_year : (y : ℕ) → first_day (suc y) ≡ first_day y + days_in_year (pos y)
next_year y =
    day_count-next_year (pos y) (pos (suc y)) (omega (arith, signed_arith)) (omega (arith, signed_arith))

pub record YearIs (n y d : ℕ) (r : ℕ × ℕ) : Type 0 where
  pub inside : r.1 < days_in_year (pos r.0)
  pub same : first_day r.0 + r.1 ≡ first_day y + d
  pub low : y ≤ r.0
  pub high : r.0 < y + n

year_at : (b : Bool) (n y d : ℕ) → nat_lt d (days_in_year (pos y)) ≡ b
    → (days_in_year (pos y) ≤ d → YearIs n (suc y) (d - days_in_year (pos y))
    (year_of n (suc y) (d - days_in_year (pos y))))
    → YearIs (suc n) y d (cond b (y, d) (year_of n (suc y) (d - days_in_year (pos y))))
year_at true n y d e rest =
    record { inside = grind (arith, nat_tests, e); same = refl; low = omega arith; high = omega arith }
year_at false n y d e rest =
    let more : days_in_year (pos y) ≤ d = grind (arith, nat_tests, e) in
    let later = rest more in record {
      inside = later.inside;
      same = omega (arith, later.same, next_year y, more);
      low = omega (arith, later.low);
      high = omega (arith, later.high);
    }

pub year_is : (n y d : ℕ) → first_day y + d < first_day (y + n) → YearIs n y d (year_of n y d)
unfolding year_of
year_is zero y d lt = let e : y + 0 ≡ y = omega arith in absurd (omega (arith, rw e at lt))
year_is (suc n) y d lt =
    let e : y + suc n ≡ suc y + n = omega arith in
    year_at (nat_lt d (days_in_year (pos y))) n y d refl
    (λ more. year_is n (suc y) (d - days_in_year (pos y)) (omega (arith, rw e at lt, next_year y, more)))

pub year_here : (n y d : ℕ) → 1 ≤ n → d < days_in_year (pos y) → year_of n y d ≡ (y, d)
unfolding year_of
year_here zero y d some lt = absurd (omega arith)
year_here (suc n) y d some lt =
    let here : nat_lt d (days_in_year (pos y)) ≡ true = grind (arith, nat_tests) in rw here refl

pub year_later : (n k y d : ℕ) → n ≡ suc k → days_in_year (pos y) ≤ d
    → year_of k (y + 1) (d - days_in_year (pos y)) ≡ year_of n y d
unfolding year_of
year_later n k y d e more =
    let later : nat_lt d (days_in_year (pos y)) ≡ false = grind (arith, nat_tests) in
    let next : y + 1 ≡ suc y = omega arith in
    rw (e, later, next) refl

pub year_last : (n y d : ℕ) → n ≡ 0 → year_of n y d ≡ (y, d)
unfolding year_of
year_last n y d e = rw e refl

-- ---- months

pub record MonthIs (y : ℤ) (n m d : ℕ) (r : ℕ × ℕ) : Type 0 where
  pub inside : r.1 < days_in_month y r.0
  pub same : day_count y r.0 1 + r.1 ≡ day_count y m 1 + d
  pub low : m ≤ r.0
  pub high : r.0 ≤ m + n

next_month : (y : ℤ) (m : ℕ) → 1 ≤ m → day_count y (suc m) 1 ≡ day_count y m 1 + days_in_month y m
next_month y m first = let e : m + 1 ≡ suc m = omega arith in rw e at (day_count-next_month y m first)

month_at : (b : Bool) (y : ℤ) (n m d : ℕ) → 1 ≤ m → nat_lt d (days_in_month y m) ≡ b
    → (days_in_month y m ≤ d → MonthIs y n (suc m) (d - days_in_month y m)
    (month_of y n (suc m) (d - days_in_month y m)))
    → MonthIs y (suc n) m d (cond b (m, d) (month_of y n (suc m) (d - days_in_month y m)))
month_at true y n m d first e rest =
    record { inside = grind (arith, nat_tests, e); same = refl; low = omega arith; high = omega arith }
month_at false y n m d first e rest =
    let more : days_in_month y m ≤ d = grind (arith, nat_tests, e) in
    let later = rest more in record {
      inside = later.inside;
      same = omega (arith, later.same, next_month y m first, more);
      low = omega (arith, later.low);
      high = omega (arith, later.high);
    }

pub month_is : (y : ℤ) (n m d : ℕ) → 1 ≤ m → day_count y m 1 + d < day_count y (m + suc n) 1
    → MonthIs y n m d (month_of y n m d)
unfolding month_of
month_is y zero m d first lt =
    let e : m + 1 ≡ suc m = omega arith in
    record {
      inside = omega (arith, rw e at lt, next_month y m first);
      same = refl;
      low = omega arith;
      high = omega arith;
    }
month_is y (suc n) m d first lt =
    let e : m + suc (suc n) ≡ suc m + suc n = omega arith in
    month_at (nat_lt d (days_in_month y m)) y n m d first refl
    (λ more. month_is y n (suc m) (d - days_in_month y m) (omega arith)
    (omega (arith, rw e at lt, next_month y m first, more)))

pub month_here : (y : ℤ) (n m d : ℕ) → 1 ≤ n → d < days_in_month y m → month_of y n m d ≡ (m, d)
unfolding month_of
month_here y zero m d some lt = absurd (omega arith)
month_here y (suc n) m d some lt =
    let here : nat_lt d (days_in_month y m) ≡ true = grind (arith, nat_tests) in rw here refl

pub month_later : (y : ℤ) (n k m d : ℕ) → n ≡ suc k → days_in_month y m ≤ d
    → month_of y k (m + 1) (d - days_in_month y m) ≡ month_of y n m d
unfolding month_of
month_later y n k m d e more =
    let later : nat_lt d (days_in_month y m) ≡ false = grind (arith, nat_tests) in
    let next : m + 1 ≡ suc m = omega arith in
    rw (e, later, next) refl

pub month_last : (y : ℤ) (n m d : ℕ) → n ≡ 0 → month_of y n m d ≡ (m, d)
unfolding month_of
month_last y n m d e = rw e refl

-- ---- the day

whole_year : (y : ℤ) → day_count y 13 1 ≡ day_count y 1 1 + days_in_year y
whole_year y =
    omega (
      arith,
      next_month y 12 (omega arith),
      day_count-last_of_year y,
      day_count-day y 12 1 31 (omega arith) (omega arith),
    )

days_after : (y : ℤ) (m d days : ℕ) → day_count y m d ≡ 4_371_953 + days → days_from_civil y m d ≡ pos days
unfolding days_from_civil
days_after y m d days e = rw (e, day_count-epoch) (omega (arith, signed_arith))

-- a day of the year or of the month that was found is no greater than that which was sought
year_left_at : (b : Bool) (n y d m : ℕ) → (year_of n (suc y) (d - m)).1 ≤ d - m
    → (cond b (y, d) (year_of n (suc y) (d - m))).1 ≤ d
year_left_at true n y d m le = omega arith
year_left_at false n y d m le = omega (arith, le)

pub year_left : (n y d : ℕ) → (year_of n y d).1 ≤ d
unfolding year_of
year_left zero y d = omega arith
year_left (suc n) y d =
    year_left_at (nat_lt d (days_in_year (pos y))) n y d (days_in_year (pos y))
    (year_left n (suc y) (d - days_in_year (pos y)))

month_left_at : (b : Bool) (y : ℤ) (n m d l : ℕ) → (month_of y n (suc m) (d - l)).1 ≤ d - l
    → (cond b (m, d) (month_of y n (suc m) (d - l))).1 ≤ d
month_left_at true y n m d l le = omega arith
month_left_at false y n m d l le = omega (arith, le)

pub month_left : (y : ℤ) (n m d : ℕ) → (month_of y n m d).1 ≤ d
unfolding month_of
month_left y zero m d = omega arith
month_left y (suc n) m d =
    month_left_at (nat_lt d (days_in_month y m)) y n m d (days_in_month y m)
    (month_left y n (suc m) (d - days_in_month y m))

-- the day is in the calendar, and so many days after 1 January 1970
pub record DayIs (days : ℕ) (r : Day) : Type 0 where
  pub from_1970 : 1970 ≤ r.year
  pub before_10000 : r.year < 10_000
  pub month_low : 1 ≤ r.month
  pub month_high : r.month ≤ 12
  pub day_low : 1 ≤ r.day
  pub day_high : r.day ≤ days_in_month (pos r.year) r.month
  pub counted : unsigned_abs (days_from_civil (pos r.year) r.month r.day) ≡ days

day_from : (days : ℕ) (y : ℕ × ℕ) → YearIs 8030 1970 days y → DayIs days (day_in y)
day_from days y is =
    let year = pos y.0 in
    let m = month_of year 11 1 y.1 in
    let month = month_is year 11 1 y.1 (omega arith) (omega (arith, is.inside, whole_year year)) in
    record {
      from_1970 = is.low;
      before_10000 = omega (arith, is.high);
      month_low = month.low;
      month_high = omega (arith, month.high);
      day_low = omega arith;
      day_high = omega (arith, month.inside);
      counted =
          ap unsigned_abs
          (days_after year m.0 (m.1 + 1) days
          (omega (
            arith,
            day_count-day year m.0 (m.1 + 1) 1 (omega arith) (omega arith),
            month.same,
            is.same,
            day_count-epoch,
          )));
    }

pub day_is : (days : ℕ) → days < 2_932_897 → DayIs days (date_of days)
day_is days lt =
    day_from days (year_of 8030 1970 days)
    (year_is 8030 1970 days (omega (arith, day_count-epoch, day_count-end, lt)))
