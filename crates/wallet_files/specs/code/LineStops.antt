-- How a bad line of a file ends a command.
use Rattle.std.specs.Prelude.{◌≡◌, ℕ, List, ⊤}
use Rattle.program_steps.specs.Outcome.{file_refused}
use Rattle.program_steps.specs.code.Endings.{outcome}
use Rattle.program_steps.specs.declared.stop.Stop.{Stop}
use Rattle.program_steps.specs.declared.stop.Stop.TheVariants as stop
use Rattle.base_forms.specs.declared.lines.LineError.{LineError}
use Rattle.base_forms.specs.declared.lines.LineError.TheVariants.{Refused, NoMemory}

-- the file of this name is refused by that line, or memory ran out
abbrev pub IsLineStop : List ℕ → LineError → Stop → Type 0
IsLineStop name (Refused number) (stop.Refused reply) = outcome reply ≡ file_refused name number
IsLineStop name (Refused number) (stop.Failed fault) = ⊥
IsLineStop name (Refused number) stop.NoMemory = ⊤
IsLineStop name NoMemory (stop.Refused reply) = ⊥
IsLineStop name NoMemory (stop.Failed fault) = ⊥
IsLineStop name NoMemory stop.NoMemory = ⊤
