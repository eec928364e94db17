-- Why keys are not read, and why nothing is signed.
use Rattle.std.specs.Prelude.{◌≡◌, ℕ, Result, Err, ⊤}
use Rattle.key_device.specs.declared.device.SignError.{SignError}
use Rattle.key_device.specs.declared.device.SignError.TheVariants as error
use Rattle.bench_device.specs.declared.error.Error.{Error}
use Rattle.bench_device.specs.declared.error.Error.TheVariants.{Line, NoMemory}

-- the error names the bad line, or there was no memory
abbrev pub IsBadLine : {A : Type 0} → Result A ℕ → Error → Type 0
IsBadLine read (Line number) = read ≡ Err number
IsBadLine read NoMemory = ⊤

abbrev pub IsOutOfMemory : SignError → Type 0
IsOutOfMemory answer = answer ≡ error.NoMemory
