-- Which error may stand for the first rule that a text breaks.
use Rattle.std.specs.Prelude.{◌≡◌, Option, Some, ⊤}
use Rattle.sdjwt_view.specs.Reading.{Refusal, refused, envelope}
use Rattle.sdjwt_view.specs.declared.error.Error.{Error}
use Rattle.sdjwt_view.specs.declared.error.Error.TheVariants.{Refused, Envelope, NoMemory}

-- The error names the first broken rule, or is out of memory.
abbrev pub IsRefusal : Option Refusal → Error → Type 0
IsRefusal broken (Refused n) = broken ≡ Some (refused n)
IsRefusal broken (Envelope n) = broken ≡ Some (envelope n)
IsRefusal broken NoMemory = ⊤
