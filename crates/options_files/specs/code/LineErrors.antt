-- How errors name the line of a file that is refused.
use Rattle.std.specs.Prelude.{◌≡◌, ℕ, Result, Err, ⊤}
use Rattle.base_forms.specs.declared.lines.LineError.{LineError}
use Rattle.base_forms.specs.declared.lines.LineError.TheVariants.{Refused, NoMemory}
use Rattle.request_clients.specs.declared.error.Error.{Error}
use Rattle.request_clients.specs.declared.error.Error.TheVariants as clients

-- the error names the line that is refused, or there was no memory
abbrev pub IsBadLine : {A : Type 0} → Result A ℕ → LineError → Type 0
IsBadLine read (Refused number) = read ≡ Err number
IsBadLine read NoMemory = ⊤

abbrev pub line_error : Error → LineError
line_error (clients.Line number) = Refused number
line_error clients.NoMemory = NoMemory
