-- Which error may stand for the first of the rules past the issuer's JWS that is broken.
use Rattle.std.specs.Prelude.{◌≡◌, ℕ, Option, Some, ⊤}
use Rattle.sdjwt_view.specs.declared.error.Error.{Error}
use Rattle.sdjwt_view.specs.declared.error.Error.TheVariants.{Refused, Envelope, NoMemory}

abbrev pub IsInnerRefusal : Option ℕ → Error → Type 0
IsInnerRefusal broken (Refused n) = broken ≡ Some n
IsInnerRefusal broken (Envelope n) = ⊥
IsInnerRefusal broken NoMemory = ⊤
