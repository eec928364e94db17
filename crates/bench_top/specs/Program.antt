-- The exit code of the program, by the words that it is called with.
use Rattle.std.specs.Prelude.{◌≡◌, ◌⊎◌, ℕ, List, Option, Some, None}
use Rattle.outside.specs.Status.{code_of}
use Rattle.outside.specs.declared.status.Status.{Status}
use Rattle.outside.specs.declared.status.Status.TheVariants.{NoMemory}
use Rattle.program_steps.specs.Ends.{Ran}
use Rattle.runs.specs.World.{World}
use Rattle.bench_top.specs.Command.{tree_of_words}

-- The tree of the words was run, its end was written, and the code is that of the status.
abbrev pub ExitsRun : Option (List (List ℕ)) → World → World → ℕ → Type 0
ExitsRun None before after code = ⊥
ExitsRun (Some words) before after code =
    (status : Status) × Ran (tree_of_words before.device.held words) before after status
    × (code ≡ code_of status)

-- That, or memory ran out for the words, and nothing was done.
abbrev pub Exits : Option (List (List ℕ)) → World → World → ℕ → Type 0
Exits words before after code = ExitsRun words before after code
    ⊎ ((after ≡ before) × (code ≡ code_of NoMemory))
