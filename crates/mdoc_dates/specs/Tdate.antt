-- The text of a moment, given in seconds from 1970-01-01T00:00:00Z: `tdate` of ISO/IEC 18013-5, section
-- 7.2.1, which is `date-time` of RFC 3339, section 5.6, with no fraction of a second and with `Z` for the
-- offset. The calendar is that of `jiff_core`.
use Rattle.std.specs.Prelude.{ℕ, zero, suc, ◌+◌, ◌-◌, ◌/◌, ◌%◌, nat_lt, ℤ, pos, List, [], ◌∷◌, ◌++◌}
use Rattle.std.specs.Prelude.{if◌then◌else◌}
use Rattle.jiff_core.specs.Calendar.{days_in_year, days_in_month}

-- ---- days

-- a year, its month from 1, and the place in the month from 1
pub record Day : Type 0 where
  pub year : ℕ
  pub month : ℕ
  pub day : ℕ

-- The year of the day that comes so many days after the beginning of `year`, and how many days of its year
-- come before it. At most n years are passed over.
unfoldable pub year_of : ℕ → ℕ → ℕ → ℕ × ℕ
year_of zero year days = (year, days)
year_of (suc n) year days =
    if nat_lt days (days_in_year (pos year)) then (year, days)
    else year_of n (suc year) (days - days_in_year (pos year))

-- the same of the months of a year
unfoldable pub month_of : ℤ → ℕ → ℕ → ℕ → ℕ × ℕ
month_of year zero month days = (month, days)
month_of year (suc n) month days =
    if nat_lt days (days_in_month year month) then (month, days)
    else month_of year n (suc month) (days - days_in_month year month)

abbrev pub day_in : ℕ × ℕ → Day
day_in y =
    let m : ℕ × ℕ = month_of (pos y.0) 11 1 y.1 in record { year = y.0; month = m.0; day = m.1 + 1 }

-- The day that comes so many days after 1 January 1970. No year after 9999 has a text.
abbrev pub date_of : ℕ → Day
date_of days = day_in (year_of 8030 1970 days)

-- ---- the text

-- the last two digits of a number
abbrev pub two_digits : ℕ → List ℕ
two_digits n = (48 + n / 10 % 10) ∷ (48 + n % 10) ∷ []

-- `YYYY-MM-DD`
abbrev pub date_text : Day → List ℕ
date_text d =
    two_digits (d.year / 100) ++ two_digits d.year
    ++ 45 ∷ [] ++ two_digits d.month
    ++ 45 ∷ [] ++ two_digits d.day

-- `HH:MM:SS`, of the second of a day
abbrev pub time_text : ℕ → List ℕ
time_text seconds =
    two_digits (seconds / 3600 % 24)
    ++ 58 ∷ [] ++ two_digits (seconds / 60 % 60)
    ++ 58 ∷ [] ++ two_digits (seconds % 60)

abbrev pub tdate_text : ℕ → List ℕ
tdate_text seconds = date_text (date_of (seconds / 86_400)) ++ 84 ∷ [] ++ time_text seconds ++ 90 ∷ []
