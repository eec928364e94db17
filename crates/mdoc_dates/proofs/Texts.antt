-- A date with its time is read from its text.
use Rattle.std.proofs.Common.{◌≡◌, ℕ, ◌+◌, ◌-◌, ◌*◌, ◌/◌, ◌%◌, ◌<◌, ◌≤◌, ◌&&◌, Bool, true, List, [], ◌∷◌}
use Rattle.std.proofs.Common.{◌++◌}
use Rattle.std.proofs.Common.{Some, None, pos, refl, arith, cond}
use Rattle.std.proofs.lemmas.Bool.{and_from}
use Rattle.std.proofs.lemmas.Bool.Decides.{nat_tests}
use Rattle.jiff_core.specs.Calendar.{days_in_month}
use Rattle.base_forms.specs.Url64.{is_between}
use Rattle.base_forms.specs.Tdate.{is_digit, fits, is_tdate_form, has_day, has_time}
use Rattle.base_forms.specs.Tdate.{exists_in, seconds_in, tdate_of, year_in, month_in, day_in, hour_in}
use Rattle.base_forms.specs.Tdate.{minute_in, second_in}
use Rattle.mdoc_dates.specs.Tdate.{Day, date_of, date_text, time_text}
use Rattle.mdoc_dates.specs.Laws.{TextsRead}
use Rattle.mdoc_dates.proofs.Counting.{DayIs, day_is}

between : (low high x : ℕ) → low ≤ x → x ≤ high → is_between low high x ≡ true
between low high x a b = grind (arith, nat_tests)

digit : (n : ℕ) → is_digit (48 + n % 10) ≡ true
digit n = between 48 57 (48 + n % 10) (omega arith) (omega arith)

abbrev text_of : Day → ℕ → List ℕ
text_of d s = date_text d ++ 84 ∷ [] ++ time_text s ++ 90 ∷ []

has_form : (d : Day) (s : ℕ) → is_tdate_form (text_of d s) ≡ true
unfolding fits
has_form d s =
    rw (
      digit (d.year / 100 / 10),
      digit (d.year / 100),
      digit (d.year / 10),
      digit d.year,
      digit (d.month / 10),
      digit d.month,
      digit (d.day / 10),
      digit d.day,
      digit (s / 3600 % 24 / 10),
      digit (s / 3600 % 24),
      digit (s / 60 % 60 / 10),
      digit (s / 60 % 60),
      digit (s % 60 / 10),
      digit (s % 60),
    ) refl

pair : (n : ℕ) → n < 100 → (48 + n / 10 % 10 - 48) * 10 + (48 + n % 10 - 48) ≡ n
pair n lt = omega arith

year_is : (d : Day) (s : ℕ) → d.year < 10_000 → year_in (text_of d s) ≡ d.year
year_is d s lt = omega arith

month_is : (d : Day) (s : ℕ) → d.month < 100 → month_in (text_of d s) ≡ d.month
month_is d s lt = pair d.month lt

day_of : (d : Day) (s : ℕ) → d.day < 100 → day_in (text_of d s) ≡ d.day
day_of d s lt = pair d.day lt

hour_is : (d : Day) (s : ℕ) → hour_in (text_of d s) ≡ s / 3600 % 24
hour_is d s = pair (s / 3600 % 24) (omega arith)

minute_is : (d : Day) (s : ℕ) → minute_in (text_of d s) ≡ s / 60 % 60
minute_is d s = pair (s / 60 % 60) (omega arith)

second_is : (d : Day) (s : ℕ) → second_in (text_of d s) ≡ s % 60
second_is d s = pair (s % 60) (omega arith)

month_days : (y : ℕ) (m : ℕ) → days_in_month (pos y) m ≤ 31
month_days y m = grind arith

has_the_day : (days : ℕ) (d : Day) → DayIs days d → has_day d.year d.month d.day ≡ true
has_the_day days d is =
    grind (arith, nat_tests, is.from_1970, is.month_low, is.month_high, is.day_low, is.day_high)

has_the_time : (s : ℕ) → has_time (s / 3600 % 24) (s / 60 % 60) (s % 60) ≡ true
has_the_time s =
    let hour : s / 3600 % 24 ≤ 23 = omega arith in
    let minute : s / 60 % 60 ≤ 59 = omega arith in
    let second : s % 60 ≤ 59 = omega arith in
    grind (arith, nat_tests, hour, minute, second)

split : (s : ℕ) → s / 86_400 * 86_400 + (s / 3600 % 24 * 3600 + s / 60 % 60 * 60 + s % 60) ≡ s
split s = omega arith

read_at : (form exists : Bool) (seconds meant : ℕ) → form ≡ true → exists ≡ true → seconds ≡ meant
    → cond (form && exists) (Some seconds) None ≡ Some meant
read_at form exists seconds meant a b c = rw (a, b, c) refl

read_back : (s : ℕ) (d : Day) → DayIs (s / 86_400) d → tdate_of (text_of d s) ≡ Some s
unfolding tdate_of
read_back s d is =
    let short : d.day < 100 = omega (arith, is.day_high, month_days d.year d.month) in
    let y = year_is d s is.before_10000 in
    let m = month_is d s (omega (arith, is.month_high)) in
    let day = day_of d s short in
    let exists : exists_in (text_of d s) ≡ true =
    rw (y, m, day, hour_is d s, minute_is d s, second_is d s)
    (and_from (has_day d.year d.month d.day) (has_time (s / 3600 % 24) (s / 60 % 60) (s % 60))
    (has_the_day (s / 86_400) d is) (has_the_time s)) in
    let seconds : seconds_in (text_of d s) ≡ s =
    rw (y, m, day, hour_is d s, minute_is d s, second_is d s, is.counted) (split s) in
    read_at (is_tdate_form (text_of d s)) (exists_in (text_of d s)) (seconds_in (text_of d s)) s
    (has_form d s) exists seconds

pub texts_read : TextsRead
texts_read s lt = read_back s (date_of (s / 86_400)) (day_is (s / 86_400) (omega (arith, lt)))
