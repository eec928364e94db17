-- How a program ends, against the tree of its command: the tree is run, and then its end is written and the
-- status answered.
use Rattle.std.specs.Prelude.{◌≡◌, ◌⊎◌, true, Option, Some, None, ⊤}
use Rattle.outside.specs.Calls.{gave, failed}
use Rattle.outside.specs.Sink.{SinkState, written, IsWritten}
use Rattle.outside.specs.declared.status.Status.{Status}
use Rattle.outside.specs.declared.status.Status.TheVariants.{WriteFault, NoMemory}
use Rattle.program_steps.specs.Outcome.{Outcome, usage, fault_line}
use Rattle.program_steps.specs.Own.{is_own}
use Rattle.runs.specs.Runs.{Ending, value, refused, fault, out_of_memory, Runs}
use Rattle.runs.specs.Tree.{Tree}
use Rattle.runs.specs.World.{World}

-- The text is written and the status answered, or the sink failed in the text and that is answered.
abbrev pub Ends : Outcome → SinkState → SinkState → Status → Type 0
Ends owed old new status =
    (IsWritten owed.text old new (gave written) × (status ≡ owed.status))
    ⊎ (IsWritten owed.text old new failed × (status ≡ WriteFault))

-- What is owed is written: a command's outcome, or the line of a fault. Nothing is written where memory ran
-- out.
abbrev pub Closes : Ending Outcome Outcome → SinkState → SinkState → Status → Type 0
Closes (value owed) old new status = Ends owed old new status
Closes (refused owed) old new status = Ends owed old new status
Closes (fault f) old new status = Ends (fault_line f) old new status
Closes out_of_memory old new status = (new ≡ old) × (status ≡ NoMemory)

-- an outcome has a status that a command chooses itself
abbrev pub IsOwn : Ending Outcome Outcome → Type 0
IsOwn (value owed) = is_own owed.status ≡ true
IsOwn (refused owed) = is_own owed.status ≡ true
IsOwn (fault f) = ⊤
IsOwn out_of_memory = ⊤

-- The tree of the command was run, and then its end was written, once. Words that are no command ask nothing,
-- and `usage` is written.
abbrev pub Ran : Option (Tree Outcome Outcome) → World → World → Status → Type 0
Ran None before after status = (after ≡ record before { sink = after.sink })
    × Ends usage before.sink after.sink status
Ran (Some tree) before after status =
    (end : Ending Outcome Outcome) × (mid : World) × Runs tree before mid end × IsOwn end
    × (after ≡ record mid { sink = after.sink }) × Closes end mid.sink after.sink status
