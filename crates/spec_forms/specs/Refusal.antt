-- Which error may stand for a spec whose least broken rule is known.
use Rattle.std.specs.Prelude.{◌≡◌, ℕ, Option, Some, ⊤}
use Rattle.spec_forms.specs.declared.error.Error.{Error}
use Rattle.spec_forms.specs.declared.error.Error.TheVariants.{Refused, NoMemory}

-- The error names the broken rule, or is out of memory.
abbrev pub IsRefusal : Option ℕ → Error → Type 0
IsRefusal broken (Refused n) = broken ≡ Some n
IsRefusal broken NoMemory = ⊤
