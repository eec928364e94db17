-- The text of a second (ISO/IEC 18013-5, section 7.2.1) is read as that second.
use Rattle.std.specs.Prelude.{◌≡◌, ◌<◌, ℕ, Some}
use Rattle.base_forms.specs.Tdate.{tdate_of}
use Rattle.mdoc_dates.specs.Tdate.{tdate_text}

-- the seconds from 1970 to the end of the year 9999, after which no moment has a text
abbrev pub year_10000 : ℕ
year_10000 = 253_402_300_800

abbrev pub TextsRead : Type 0
TextsRead = (seconds : ℕ) → seconds < year_10000 → tdate_of (tdate_text seconds) ≡ Some seconds
