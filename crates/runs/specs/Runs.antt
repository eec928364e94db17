-- What a call did, against its tree: how the objects' states before it, those after it and its end go
-- together.
use Rattle.std.specs.Prelude.{◌≡◌, ◌⊎◌, ⊤, Option}
use Rattle.outside.specs.Calls.{gave, failed, exhausted}
use Rattle.runs.specs.Tree.{Answer, Tree, gives, stops, needs, tries}
use Rattle.runs.specs.World.{World, fault_of, Took, got}
use Rattle.runs.specs.declared.fault.Fault.{Fault}

-- how a call ends: with a value, a refusal, the fault of an object, or out of memory
pub data Ending (R A : Type 0) : Type 0 where
  value : A → Ending R A
  refused : R → Ending R A
  fault : Fault → Ending R A
  out_of_memory : Ending R A

abbrev pub map_ending : {R S A : Type 0} → (R → S) → Ending R A → Ending S A
map_ending f (value v) = value v
map_ending f (refused refusal) = refused (f refusal)
map_ending f (fault g) = fault g
map_ending f out_of_memory = out_of_memory

-- it is this value, or memory ran out
abbrev pub HandsOn : {R A : Type 0} → A → Ending R A → Type 0
HandsOn wanted (value v) = v ≡ wanted
HandsOn wanted (refused refusal) = ⊥
HandsOn wanted (fault f) = ⊥
HandsOn wanted out_of_memory = ⊤

-- it is this refusal, or memory ran out
abbrev pub Refuses : {R A : Type 0} → R → Ending R A → Type 0
Refuses wanted (value v) = ⊥
Refuses wanted (refused refusal) = refusal ≡ wanted
Refuses wanted (fault f) = ⊥
Refuses wanted out_of_memory = ⊤

-- it is this fault
abbrev pub Faults : {R A : Type 0} → Fault → Ending R A → Type 0
Faults wanted (value v) = ⊥
Faults wanted (refused refusal) = ⊥
Faults wanted (fault f) = f ≡ wanted
Faults wanted out_of_memory = ⊥

-- memory ran out
abbrev pub GivesUp : {R A : Type 0} → Ending R A → Type 0
GivesUp (value v) = ⊥
GivesUp (refused refusal) = ⊥
GivesUp (fault f) = ⊥
GivesUp out_of_memory = ⊤

-- The objects went from the states before to those after as the tree says, and the call ended so. At each
-- question the object that is asked alone changed. Memory may run out anywhere.
unfoldable pub Runs : {R A : Type 0} → Tree R A → World → World → Ending R A → Type 0
Runs (gives v) before after end = (after ≡ before) × HandsOn v end
Runs (stops refusal) before after end = (after ≡ before) × Refuses refusal end
Runs (needs q next) before after end =
    ((answer : Answer q) × (mid : World) × Took q before mid (gave answer) × Runs (next answer) mid after end)
    ⊎ (Took q before after failed × Faults (fault_of q) end)
    ⊎ (((after ≡ before) ⊎ Took q before after exhausted) × GivesUp end)
Runs (tries q next) before after end =
    ((answer : Option (Answer q)) × (mid : World) × Took q before mid (got answer)
    × Runs (next answer) mid after end)
    ⊎ (((after ≡ before) ⊎ Took q before after exhausted) × GivesUp end)
