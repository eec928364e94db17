-- Texts of moments.
use Rattle.std.specs.Prelude.{◌≡◌, codes}
use Rattle.std.proofs.Common.{refl}
use Rattle.mdoc_dates.specs.Tdate.{tdate_text, year_of, month_of}

start : tdate_text 0 ≡ codes "1970-01-01T00:00:00Z"
unfolding year_of month_of
start = refl

-- a day of a leap year that is no century
leap_day : tdate_text 1_709_209_845 ≡ codes "2024-02-29T12:30:45Z"
unfolding year_of month_of
leap_day = refl

-- the last moment that has a text
last : tdate_text 253_402_300_799 ≡ codes "9999-12-31T23:59:59Z"
unfolding year_of month_of
last = refl
