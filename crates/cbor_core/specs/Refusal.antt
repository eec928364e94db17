-- An error of this crate beside the rule that is broken (RFC 8949, section 3).
use Rattle.std.specs.Prelude.{◌≡◌, ℕ, Option, Some, ⊤}
use Rattle.cbor_core.specs.declared.error.Error.{Error}
use Rattle.cbor_core.specs.declared.error.Error.TheVariants.{Refused, NoMemory}

-- The error has the number of the broken rule, or there was no memory.
abbrev pub IsRefusal : Error → Option ℕ → Type 0
IsRefusal (Refused n) broken = broken ≡ Some n
IsRefusal NoMemory broken = ⊤
