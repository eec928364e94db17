-- An example: a call with one rule before a judgement and one after it, over the device alone. Each lemma is
-- what one exit of its body owes.
use Rattle.std.proofs.Common.{◌≡◌, ℕ, List, Bool, Option, Some, None}
use Rattle.outside.specs.Calls.{gave, failed}
use Rattle.claim_tree.specs.Credential.{Algorithm}
use Rattle.key_device.specs.Device.{DeviceState, IsJudged}
use Rattle.runs.specs.Runs.{value, refused, fault, out_of_memory, Runs}
use Rattle.runs.specs.Tree.{Tree, gives, needs, judge, unless}
use Rattle.runs.specs.World.{World}
use Rattle.runs.specs.declared.fault.Fault.TheVariants.{Device}
use Rattle.runs.proofs.Questions.{runs_judge, runs_judge_fault}
use Rattle.runs.proofs.Trees.{runs_out, runs_past, runs_broken, runs_gives}

record Looks (R A : Type 0) : Type 0 where
  front : Option R
  after : Bool → Option R
  name : List ℕ
  alg : Algorithm
  message : List ℕ
  signature : List ℕ
  wanted : A

judged_tree : {R A : Type 0} → Looks R A → Tree R A
judged_tree l = unless l.front (needs (judge l.name l.alg l.message l.signature) (λ answer.
    unless (l.after answer) (gives l.wanted)))

-- the rule before it is broken, and the device is not asked
front_broken : {R A : Type 0} (l : Looks R A) (rule : R) (old : DeviceState) → l.front ≡ Some rule
    → (w : World) → Runs (judged_tree l) (record w { device = old }) (record w { device = old })
    (refused rule)
unfolding judged_tree
front_broken l rule old is w = runs_broken l.front rule _ (record w { device = old }) is

-- the device failed
device_failed : {R A : Type 0} (l : Looks R A) (old new : DeviceState) → l.front ≡ None
    → IsJudged l.name l.alg l.message l.signature old new failed
    → (w : World) → Runs (judged_tree l) (record w { device = old }) (record w { device = new })
    (fault Device)
unfolding judged_tree
device_failed l old new is judged w =
    runs_past l.front _ _ _ _ is (runs_judge_fault _ _ _ _ _ _ _ w judged)

-- it answered, and the rule after it is broken
after_broken : {R A : Type 0} (l : Looks R A) (answer : Bool) (rule : R) (old new : DeviceState)
    → l.front ≡ None → IsJudged l.name l.alg l.message l.signature old new (gave answer)
    → l.after answer ≡ Some rule
    → (w : World) → Runs (judged_tree l) (record w { device = old }) (record w { device = new })
    (refused rule)
unfolding judged_tree
after_broken l answer rule old new is judged broken w = runs_past l.front _ _ _ _ is
    (runs_judge _ _ _ _ _ _ _ answer w _ judged (runs_broken (l.after answer) rule _ _ broken))

-- it answered, and memory ran out after it
out_after : {R A : Type 0} (l : Looks R A) (answer : Bool) (old new : DeviceState) → l.front ≡ None
    → IsJudged l.name l.alg l.message l.signature old new (gave answer)
    → (w : World)
    → Runs (judged_tree l) (record w { device = old }) (record w { device = new }) out_of_memory
unfolding judged_tree
out_after l answer old new is judged w = runs_past l.front _ _ _ _ is
    (runs_judge _ _ _ _ _ _ _ answer w _ judged (runs_out _ _))

-- it answered, and no rule is broken
passed : {R A : Type 0} (l : Looks R A) (answer : Bool) (v : A) (old new : DeviceState) → l.front ≡ None
    → IsJudged l.name l.alg l.message l.signature old new (gave answer) → l.after answer ≡ None
    → v ≡ l.wanted
    → (w : World) → Runs (judged_tree l) (record w { device = old }) (record w { device = new }) (value v)
unfolding judged_tree
passed l answer v old new is judged none same w = runs_past l.front _ _ _ _ is
    (runs_judge _ _ _ _ _ _ _ answer w _ judged (runs_past (l.after answer) _ _ _ _ none
    (runs_gives _ l.wanted v _ same)))
