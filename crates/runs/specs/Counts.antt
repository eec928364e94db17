-- The faults of a run: which questions a tree may ask, and whose counts rose.
use Rattle.std.specs.Prelude.{◌≡◌, ◌⊎◌, ⊤, ℕ, ◌≤◌, List, Option}
use Rattle.outside.specs.Faults.{Rose}
use Rattle.runs.specs.Runs.{Ending, value, refused, fault, out_of_memory, Runs}
use Rattle.runs.specs.Tree.{Question, file, judge, sign, time, write, Answer, Tree, gives, stops, needs}
use Rattle.runs.specs.Tree.{tries}
use Rattle.runs.specs.World.{World, fault_of}
use Rattle.runs.specs.declared.fault.Fault.{Fault}

-- how often each object has failed
pub record Counts : Type 0 where
  pub store : List ℕ → ℕ
  pub device : ℕ
  pub clock : ℕ
  pub sink : ℕ

abbrev pub counts : World → Counts
counts w = record {
  store = w.store.faults;
  device = w.device.faults;
  clock = w.clock.faults;
  sink = w.sink.faults;
}

-- the count rose of the object that is asked this; of the store, that of the name
abbrev pub RoseBy : Question → Counts → Counts → Type 0
RoseBy (file name limit) before after = Rose (before.store name) (after.store name)
RoseBy (judge name alg message signature) before after = Rose before.device after.device
RoseBy (sign name message) before after = Rose before.device after.device
RoseBy time before after = Rose before.clock after.clock
RoseBy (write text) before after = Rose before.sink after.sink

-- some answers lead the tree to this question
unfoldable pub MayAsk : {R A : Type 0} → Tree R A → Question → Type 0
MayAsk (gives v) q = ⊥
MayAsk (stops refusal) q = ⊥
MayAsk (needs asked next) q = (q ≡ asked) ⊎ ((answer : Answer asked) × MayAsk (next answer) q)
MayAsk (tries asked next) q = (q ≡ asked) ⊎ ((answer : Option (Answer asked)) × MayAsk (next answer) q)

-- no answers lead the tree to a question of this kind
abbrev pub Avoids : {R A : Type 0} → (Question → Type 0) → Tree R A → Type 0
Avoids P t = (q : Question) → P q → ¬ MayAsk t q

-- a question of the tree that asks this object, and at which the object's count rose
pub record Cause {R A : Type 0} (t : Tree R A) (before after : Counts) (f : Fault) : Type 0 where
  pub question : Question
  pub asked : MayAsk t question
  pub object : fault_of question ≡ f
  pub rose : RoseBy question before after

-- A run ends by the fault of an object only where the count of that object rose, at a question of the tree.
abbrev pub FaultsHaveCauses : Type 0 → Type 0 → Type 0
FaultsHaveCauses R A = (t : Tree R A) (before after : World) (f : Fault) → Runs t before after (fault f)
    → Cause t (counts before) (counts after) f

-- no count is lower
pub record Later (before after : Counts) : Type 0 where
  pub store : (name : List ℕ) → before.store name ≤ after.store name
  pub device : before.device ≤ after.device
  pub clock : before.clock ≤ after.clock
  pub sink : before.sink ≤ after.sink

-- However a run ends, no count fell.
abbrev pub CountsNeverFall : Type 0 → Type 0 → Type 0
CountsNeverFall R A = (t : Tree R A) (before after : World) (end : Ending R A) → Runs t before after end
    → Later (counts before) (counts after)

-- the tree passes over no fault
unfoldable pub Insists : {R A : Type 0} → Tree R A → Type 0
Insists (gives v) = ⊤
Insists (stops refusal) = ⊤
Insists (needs q next) = (answer : Answer q) → Insists (next answer)
Insists (tries q next) = ⊥

abbrev pub IsNoFault : {R A : Type 0} → Ending R A → Type 0
IsNoFault (value v) = ⊤
IsNoFault (refused refusal) = ⊤
IsNoFault (fault f) = ⊥
IsNoFault out_of_memory = ⊤

-- Where a tree passes over no fault, all counts stay as they were in a run that does not end by one.
abbrev pub CountsStay : Type 0 → Type 0 → Type 0
CountsStay R A = (t : Tree R A) (before after : World) (end : Ending R A) → Insists t
    → Runs t before after end → IsNoFault end → counts after ≡ counts before
