-- What an error says of the result that was wanted.
use Rattle.std.specs.Prelude.{◌≡◌, ℕ, List, Result, Err, Some, ⊤}
use Rattle.base_forms.specs.Rules.{lowest}
use Rattle.dcql_query.specs.declared.error.Error.{Error}
use Rattle.dcql_query.specs.declared.error.Error.TheVariants.{Refused, NoMemory}

-- The error names the least broken rule, or is out of memory.
abbrev pub IsRefusal : {A : Type 0} → Result A ℕ → Error → Type 0
IsRefusal wanted (Refused n) = wanted ≡ Err n
IsRefusal wanted NoMemory = ⊤

-- The error names the least of these rules, or is out of memory.
abbrev pub IsLeastOf : List ℕ → Error → Type 0
IsLeastOf rules (Refused n) = lowest rules ≡ Some n
IsLeastOf rules NoMemory = ⊤
