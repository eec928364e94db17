-- What follows of the end of every program.
use Rattle.std.specs.Prelude.{◌≡◌, ◌≢◌, ◌⊎◌, List, [], ◌++◌, Option, Some, None, IfSome, IsSomeAnd}
use Rattle.std.specs.Prelude.{option_map}
use Rattle.outside.specs.Faults.{Rose}
use Rattle.outside.specs.declared.status.Status.{Status}
use Rattle.outside.specs.declared.status.Status.TheVariants.{Usage, WriteFault, NoMemory}
use Rattle.program_steps.specs.Ends.{Ran}
use Rattle.program_steps.specs.Outcome.{Outcome, ends_with, fault_line, fault_status}
use Rattle.key_device.specs.Calls.{Grew}
use Rattle.key_device.specs.Device.{OnlyAdds}
use Rattle.runs.specs.Asked.{Answered, Goes, reads_in, moments_in}
use Rattle.runs.specs.Counts.{Counts, counts, Cause, Later, Insists}
use Rattle.runs.specs.Expected.{Sources, Tells, expected, NoneRose, clock_tells, AsksUntold}
use Rattle.runs.specs.Runs.{Ending, value, refused, fault, out_of_memory}
use Rattle.runs.specs.Signed.{signatures, AreGenuine, calls}
use Rattle.runs.specs.Tree.{Tree}
use Rattle.runs.specs.World.{World}
use Rattle.runs.specs.declared.fault.Fault.{Fault}
use Rattle.runs.specs.declared.fault.Fault.TheVariants.{Write}

-- ---- causes

abbrev pub CauseIn : Option (Tree Outcome Outcome) → Counts → Counts → Fault → Type 0
CauseIn None before after f = ⊥
CauseIn (Some tree) before after f = Cause tree before after f

-- the count of that object rose at a question of the tree, or it is the sink, whose count rose
abbrev pub IsCaused : Option (Tree Outcome Outcome) → Counts → Counts → Fault → Type 0
IsCaused tree before after f = CauseIn tree before after f ⊎ ((f ≡ Write) × Rose before.sink after.sink)

-- The status of a fault is answered only where the count of that object rose, at a question of the tree or as
-- the end was written.
abbrev pub StatusesHaveCauses : Type 0
StatusesHaveCauses = (tree : Option (Tree Outcome Outcome)) (before later : World) (f : Fault)
    → Ran tree before later (fault_status f) → IsCaused tree (counts before) (counts later) f

-- The status of no command is answered only where there is none, and there no other is but that of a failed
-- sink.
abbrev pub UsageIsNoCommand : Type 0
UsageIsNoCommand = (tree : Option (Tree Outcome Outcome)) (before later : World) → Ran tree before later Usage
    → tree ≡ None

abbrev pub NoCommandIsUsage : Type 0
NoCommandIsUsage = (before later : World) (status : Status) → Ran None before later status
    → status ≢ WriteFault → status ≡ Usage

-- ---- completeness

-- what is written and answered for an end
abbrev pub owed : Ending Outcome Outcome → Outcome
owed (value outcome) = outcome
owed (refused outcome) = outcome
owed (fault f) = fault_line f
owed out_of_memory = ends_with NoMemory []

-- The outcome of this end is answered and written after what was written before, the reads are those that
-- were made on the way, and the moments that the clock has still to give are those that are left.
pub record Completes (later : World) (told : Sources) (outcome : Outcome) (answer : Status) : Type 0 where
  pub status : answer ≡ outcome.status
  pub text : later.sink.written ≡ option_map (λ bytes. bytes ++ outcome.text) told.written
  pub reads : later.store.reads ≡ told.reads
  pub moments : later.clock.moments ≡ told.moments

-- Where no count rose of what the command asks, nor that of the sink, and memory did not run out, the outcome
-- is exactly the one that the words and what the objects tell determine.
abbrev pub EndsComplete : Type 0
EndsComplete = (tree : Tree Outcome Outcome) (before later : World) (sources : Sources) (status : Status)
    → Ran (Some tree) before later status → Tells before sources
    → NoneRose (counts before) (counts later) (expected tree sources).asked
    → (Rose before.sink.faults later.sink.faults → ⊥) → status ≢ NoMemory
    → IfSome (expected tree sources).end (λ end. Completes later (expected tree sources).told
    (owed end) status)

-- Where the tree passes over no fault, and no fault is answered and memory did not run out, the same holds
-- whatever the counts are; or else something is asked for that they do not tell.
abbrev pub EndsAsTold : Type 0
EndsAsTold = (tree : Tree Outcome Outcome) (before later : World) (sources : Sources) (status : Status)
    → Insists tree → Ran (Some tree) before later status → Tells before sources
    → ((f : Fault) → status ≢ fault_status f) → status ≢ NoMemory
    → IsSomeAnd (expected tree sources).end (λ end. Completes later (expected tree sources).told
    (owed end) status)
    ⊎ AsksUntold (clock_tells sources) (expected tree sources).asked

-- ---- what was asked

-- The tree goes along what was answered, to an end whose status is answered, unless the sink failed as the
-- end was written. That is all that the store, the device and the clock were asked for; each signature in it
-- is judged yes by the device as it is left; the store's files are as they were; and the sink was offered no
-- empty piece.
pub record Asked (tree : Tree Outcome Outcome) (before after : World) (status : Status) : Type 0 where
  pub end : Ending Outcome Outcome
  pub log : List Answered
  pub goes : Goes tree log end
  pub ends : (status ≡ (owed end).status) ⊎ (status ≡ WriteFault)
  pub reads : after.store.reads ≡ option_map (λ told. told ++ reads_in log) before.store.reads
  pub files : after.store.files ≡ before.store.files
  pub pieces : after.sink.empty_pieces ≡ before.sink.empty_pieces
  pub calls : Grew before.device.calls after.device.calls (calls log)
  pub moments : before.clock.moments ≡ option_map (λ later. moments_in log ++ later) after.clock.moments
  pub genuine : AreGenuine after.device.held after.device.judged (signatures log)

-- The objects are asked what the tree asks, in that order, and nothing else. Words that are no command ask
-- the store, the device and the clock nothing.
abbrev pub AsksInOrder : Type 0
AsksInOrder = (tree : Tree Outcome Outcome) (before after : World) (status : Status)
    → Ran (Some tree) before after status → Asked tree before after status

abbrev pub NoCommandAsksNothing : Type 0
NoCommandAsksNothing = (before after : World) (status : Status) → Ran None before after status
    → (after.store ≡ before.store) × (after.device ≡ before.device) × (after.clock ≡ before.clock)

-- ---- counts

abbrev pub CountsNeverFall : Type 0
CountsNeverFall = (tree : Option (Tree Outcome Outcome)) (before after : World) (status : Status)
    → Ran tree before after status → Later (counts before) (counts after)

-- Where the tree passes over no fault and no fault is answered, no count rose.
abbrev pub CountsStay : Type 0
CountsStay = (tree : Tree Outcome Outcome) (before after : World) (status : Status)
    → Insists tree → Ran (Some tree) before after status → ((f : Fault) → status ≢ fault_status f)
    → counts after ≡ counts before

-- ---- keys

-- Whatever is answered, the device holds the same names with the same algorithms.
abbrev pub HeldStays : Type 0
HeldStays = (tree : Option (Tree Outcome Outcome)) (before after : World) (status : Status)
    → Ran tree before after status → after.device.held ≡ before.device.held

-- Whatever is answered, the device judges yes all that it judged yes before.
abbrev pub JudgedOnlyAdds : Type 0
JudgedOnlyAdds = (tree : Option (Tree Outcome Outcome)) (before after : World) (status : Status)
    → Ran tree before after status → OnlyAdds before.device.judged after.device.judged
