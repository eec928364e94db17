-- Why the lines of a text are not read as clients.
use Rattle.std.specs.Prelude.{◌≡◌, ℕ, Result, Err, ⊤}
use Rattle.request_clients.specs.declared.error.Error.{Error}
use Rattle.request_clients.specs.declared.error.Error.TheVariants.{Line, NoMemory}

-- the error names the first bad line, or there was no memory
abbrev pub IsBadLine : {A : Type 0} → Result A ℕ → Error → Type 0
IsBadLine read (Line number) = read ≡ Err number
IsBadLine read NoMemory = ⊤
