-- What an error says of the rules of a COSE_Sign1 (RFC 9052).
use Rattle.std.specs.Prelude.{◌≡◌, ℕ, Option, Some, ⊤}
use Rattle.cose_sign1.specs.declared.error.Error.{Error}
use Rattle.cose_sign1.specs.declared.error.Error.TheVariants.{Refused, NoMemory}

-- The error names the first broken rule, or is out of memory.
abbrev pub IsRefusal : Option ℕ → Error → Type 0
IsRefusal broken (Refused n) = broken ≡ Some n
IsRefusal broken NoMemory = ⊤
