-- A question at the front of a tree: what a function that makes one call of an object has to show.
use Rattle.std.proofs.Common.{inl, inr, refl, ℕ, List, Bool, Option}
use Rattle.outside.specs.Calls.{gave, failed, exhausted}
use Rattle.outside.specs.Clock.{ClockState, IsTold}
use Rattle.claim_tree.specs.Credential.{Algorithm}
use Rattle.key_device.specs.Device.{DeviceState, IsJudged, IsSigned}
use Rattle.runs.specs.Runs.{Ending, fault, out_of_memory, Runs}
use Rattle.runs.specs.Tree.{Question, Answer, Tree, needs, tries, judge, sign, time}
use Rattle.runs.specs.World.{World, fault_of, Took, got}
use Rattle.runs.specs.declared.fault.Fault.TheVariants.{Device, Clock}

-- ---- any question

-- the object answered, and the rest went on
pub runs_needed : {R A : Type 0} (q : Question) (next : Answer q → Tree R A) (before mid after : World)
    (answer : Answer q) (end : Ending R A)
    → Took q before mid (gave answer) → Runs (next answer) mid after end
    → Runs (needs q next) before after end
unfolding Runs
runs_needed q next before mid after answer end took rest = inl (answer, mid, took, rest)

-- the object failed
pub runs_faulted : {R A : Type 0} (q : Question) (next : Answer q → Tree R A) (before after : World)
    → Took q before after failed → Runs (needs q next) before after (fault (fault_of q))
unfolding Runs
runs_faulted q next before after took = inr (inl (took, refl))

-- memory ran out in the call
pub runs_exhausted : {R A : Type 0} (q : Question) (next : Answer q → Tree R A) (before after : World)
    → Took q before after exhausted → Runs (needs q next) before after out_of_memory
unfolding Runs
runs_exhausted q next before after took = inr (inr (inr took, tt))

-- the object answered or failed, and the rest went on
pub runs_tried : {R A : Type 0} (q : Question) (next : Option (Answer q) → Tree R A)
    (before mid after : World) (answer : Option (Answer q)) (end : Ending R A)
    → Took q before mid (got answer) → Runs (next answer) mid after end → Runs (tries q next) before after end
unfolding Runs
runs_tried q next before mid after answer end took rest = inl (answer, mid, took, rest)

-- ---- a judgement

-- the device answered, and the rest went on
pub runs_judge_then : {R A : Type 0} (name : List ℕ) (alg : Algorithm) (message signature : List ℕ)
    (next : Bool → Tree R A) (old mid new : DeviceState) (answer : Bool) (w : World) (end : Ending R A)
    → IsJudged name alg message signature old mid (gave answer)
    → Runs (next answer) (record w { device = mid }) (record w { device = new }) end
    → Runs (needs (judge name alg message signature) next) (record w { device = old })
    (record w { device = new }) end
runs_judge_then name alg message signature next old mid new answer w end judged rest =
    runs_needed _ next _ (record w { device = mid }) _ answer end (mid, refl, judged) rest

-- the device answered, and the rest asks nothing
pub runs_judge : {R A : Type 0} (name : List ℕ) (alg : Algorithm) (message signature : List ℕ)
    (next : Bool → Tree R A) (old new : DeviceState) (answer : Bool) (w : World) (end : Ending R A)
    → IsJudged name alg message signature old new (gave answer)
    → Runs (next answer) (record w { device = new }) (record w { device = new }) end
    → Runs (needs (judge name alg message signature) next) (record w { device = old })
    (record w { device = new }) end
runs_judge name alg message signature next old new answer w end judged rest =
    runs_judge_then name alg message signature next old new new answer w end judged rest

-- the device failed
pub runs_judge_fault : {R A : Type 0} (name : List ℕ) (alg : Algorithm) (message signature : List ℕ)
    (next : Bool → Tree R A) (old new : DeviceState) (w : World)
    → IsJudged name alg message signature old new failed
    → Runs (needs (judge name alg message signature) next) (record w { device = old })
    (record w { device = new }) (fault Device)
runs_judge_fault name alg message signature next old new w judged =
    runs_faulted (judge name alg message signature) next _ _ (new, refl, judged)

-- ---- a signature

-- the device gave one, and the rest went on
pub runs_sign_then : {R A : Type 0} (name message : List ℕ) (next : List ℕ → Tree R A)
    (old mid new : DeviceState) (signature : List ℕ) (w : World) (end : Ending R A)
    → IsSigned name message old mid (gave signature)
    → Runs (next signature) (record w { device = mid }) (record w { device = new }) end
    → Runs (needs (sign name message) next) (record w { device = old }) (record w { device = new }) end
runs_sign_then name message next old mid new signature w end signed rest =
    runs_needed _ next _ (record w { device = mid }) _ signature end (mid, refl, signed) rest

-- the device gave one, and the rest asks nothing
pub runs_sign : {R A : Type 0} (name message : List ℕ) (next : List ℕ → Tree R A) (old new : DeviceState)
    (signature : List ℕ) (w : World) (end : Ending R A)
    → IsSigned name message old new (gave signature)
    → Runs (next signature) (record w { device = new }) (record w { device = new }) end
    → Runs (needs (sign name message) next) (record w { device = old }) (record w { device = new }) end
runs_sign name message next old new signature w end signed rest =
    runs_sign_then name message next old new new signature w end signed rest

-- the device failed
pub runs_sign_fault : {R A : Type 0} (name message : List ℕ) (next : List ℕ → Tree R A)
    (old new : DeviceState) (w : World)
    → IsSigned name message old new failed
    → Runs (needs (sign name message) next) (record w { device = old }) (record w { device = new })
    (fault Device)
runs_sign_fault name message next old new w signed =
    runs_faulted (sign name message) next _ _ (new, refl, signed)

-- memory ran out in the call
pub runs_sign_out : {R A : Type 0} (name message : List ℕ) (next : List ℕ → Tree R A)
    (old new : DeviceState) (w : World)
    → IsSigned name message old new exhausted
    → Runs (needs (sign name message) next) (record w { device = old }) (record w { device = new })
    out_of_memory
runs_sign_out name message next old new w signed =
    runs_exhausted (sign name message) next _ _ (new, refl, signed)

-- ---- the time

-- the clock gave a moment, and the rest went on
pub runs_time : {R A : Type 0} (next : ℕ → Tree R A) (old new : ClockState) (moment : ℕ) (w after : World)
    (end : Ending R A)
    → IsTold old new (gave moment) → Runs (next moment) (record w { clock = new }) after end
    → Runs (needs time next) (record w { clock = old }) after end
runs_time next old new moment w after end told rest =
    runs_needed time next _ (record w { clock = new }) _ moment end (new, refl, told) rest

-- the clock failed
pub runs_time_fault : {R A : Type 0} (next : ℕ → Tree R A) (old new : ClockState) (w : World)
    → IsTold old new failed
    → Runs (needs time next) (record w { clock = old }) (record w { clock = new }) (fault Clock)
runs_time_fault next old new w told = runs_faulted time next _ _ (new, refl, told)
