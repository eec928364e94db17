-- A day in memory.
use Rattle.mdoc_dates.specs.Tdate.{Day}
use Rattle.mdoc_dates.specs.declared.calendar.Date.{Date}

abbrev pub said : Date → Day
said d = record { year = d.year; month = d.month; day = d.day }
