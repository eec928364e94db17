-- What an error says of the bytes of a mobile document (ISO/IEC 18013-5).
use Rattle.std.specs.Prelude.{◌≡◌, ℕ, Option, Some, ⊤}
use Rattle.mdoc_view.specs.Refusal.{Refusal, refused, cbor, cose}
use Rattle.mdoc_view.specs.declared.error.Error.{Error}
use Rattle.mdoc_view.specs.declared.error.Error.TheVariants.{Refused, Cbor, Cose, NoMemory}

-- The error names the first broken rule, or is out of memory.
abbrev pub IsRefusal : Option Refusal → Error → Type 0
IsRefusal broken (Refused n) = broken ≡ Some (refused n)
IsRefusal broken (Cbor n) = broken ≡ Some (cbor n)
IsRefusal broken (Cose n) = broken ≡ Some (cose n)
IsRefusal broken NoMemory = ⊤

-- the same past the issuer's signed message
abbrev pub IsInnerRefusal : Option ℕ → Error → Type 0
IsInnerRefusal broken (Refused n) = broken ≡ Some n
IsInnerRefusal broken (Cbor n) = ⊥
IsInnerRefusal broken (Cose n) = ⊥
IsInnerRefusal broken NoMemory = ⊤
