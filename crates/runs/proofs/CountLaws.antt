-- The laws of the counts of a run.
use Rattle.std.proofs.Common.{◌≡◌, ◌∙◌, inl, inr, ℕ, List, Option, None, Some, refl, sym, ap, subst}
use Rattle.std.proofs.Common.{arith}
use Rattle.outside.specs.Calls.{gave, failed, exhausted}
use Rattle.outside.specs.Faults.{Rose}
use Rattle.runs.specs.Counts.{Counts, counts, RoseBy, MayAsk, Cause, FaultsHaveCauses, Later, CountsNeverFall}
use Rattle.runs.specs.Counts.{Insists, IsNoFault, CountsStay}
use Rattle.runs.specs.Runs.{Ending, value, refused, fault, out_of_memory, Faults, Runs}
use Rattle.runs.specs.Tree.{Question, file, judge, sign, time, write, Answer, Tree, gives, stops, needs}
use Rattle.runs.specs.Tree.{tries}
use Rattle.runs.specs.World.{World, fault_of, Took, got}
use Rattle.runs.specs.declared.fault.Fault.{Fault}

-- ---- one question

pub gave_counts : (q : Question) (before mid : World) (answer : Answer q) → Took q before mid (gave answer)
    → counts mid ≡ counts before
gave_counts (file name limit) before mid answer (new, is, read) = ap counts is
    ∙ ap (λ (n : List ℕ → ℕ). record (counts before) { store = n }) read.counts
gave_counts (judge name alg message signature) before mid answer (new, is, judged) = ap counts is
    ∙ ap (λ (n : ℕ). record (counts before) { device = n }) judged.counts
gave_counts (sign name message) before mid answer (new, is, signed) = ap counts is
    ∙ ap (λ (n : ℕ). record (counts before) { device = n }) signed.counts
gave_counts time before mid answer (new, is, told) = ap counts is
    ∙ ap (λ (n : ℕ). record (counts before) { clock = n }) told.counts
gave_counts (write text) before mid answer (new, is, taken) = ap counts is
    ∙ ap (λ (n : ℕ). record (counts before) { sink = n }) taken.counts

pub exhausted_counts : (q : Question) (before mid : World) → Took q before mid exhausted
    → counts mid ≡ counts before
exhausted_counts (file name limit) before mid (new, is, read) = ap counts is
    ∙ ap (λ (n : List ℕ → ℕ). record (counts before) { store = n }) read.counts
exhausted_counts (judge name alg message signature) before mid (new, is, judged) = ap counts is
    ∙ ap (λ (n : ℕ). record (counts before) { device = n }) judged.counts
exhausted_counts (sign name message) before mid (new, is, signed) = ap counts is
    ∙ ap (λ (n : ℕ). record (counts before) { device = n }) signed.counts
exhausted_counts time before mid (new, is, told) = ap counts is
    ∙ ap (λ (n : ℕ). record (counts before) { clock = n }) told.counts
exhausted_counts (write text) before mid (new, is, taken) = ap counts is
    ∙ ap (λ (n : ℕ). record (counts before) { sink = n }) taken.counts

pub failed_counts : (q : Question) (before mid : World) → Took q before mid failed
    → RoseBy q (counts before) (counts mid)
failed_counts (file name limit) before mid (new, is, read) =
    subst (λ (w : World). Rose (before.store.faults name) (w.store.faults name)) (sym is) read.counts.0
failed_counts (judge name alg message signature) before mid (new, is, judged) =
    subst (λ (w : World). Rose before.device.faults w.device.faults) (sym is) judged.counts.0
failed_counts (sign name message) before mid (new, is, signed) =
    subst (λ (w : World). Rose before.device.faults w.device.faults) (sym is) signed.counts.0
failed_counts time before mid (new, is, told) =
    subst (λ (w : World). Rose before.clock.faults w.clock.faults) (sym is) told.counts.0
failed_counts (write text) before mid (new, is, taken) =
    subst (λ (w : World). Rose before.sink.faults w.sink.faults) (sym is) taken.counts.0

-- ---- counts never fall

same_later : (before after : Counts) → after ≡ before → Later before after
same_later before after same =
    rw same (record {
      store = λ name. omega arith;
      device = omega arith;
      clock = omega arith;
      sink = omega arith;
    })

later_later : (before mid after : Counts) → Later before mid → Later mid after → Later before after
later_later before mid after one two = record {
  store = λ name. omega (arith, one.store name, two.store name);
  device = omega (arith, one.device, two.device);
  clock = omega (arith, one.clock, two.clock);
  sink = omega (arith, one.sink, two.sink);
}

failed_later : (q : Question) (before mid : World) → Took q before mid failed
    → Later (counts before) (counts mid)
failed_later (file name limit) before mid (new, is, read) =
    rw is (record { store = read.counts.1; device = omega arith; clock = omega arith; sink = omega arith })
failed_later (judge name alg message signature) before mid (new, is, judged) =
    rw is (record {
      store = λ name. omega arith;
      device = judged.counts.1;
      clock = omega arith;
      sink = omega arith;
    })
failed_later (sign name message) before mid (new, is, signed) =
    rw is (record {
      store = λ name. omega arith;
      device = signed.counts.1;
      clock = omega arith;
      sink = omega arith;
    })
failed_later time before mid (new, is, told) = rw is (record {
  store = λ name. omega arith;
  device = omega arith;
  clock = told.counts.1;
  sink = omega arith;
})
failed_later (write text) before mid (new, is, taken) = rw is (record {
  store = λ name. omega arith;
  device = omega arith;
  clock = omega arith;
  sink = taken.counts.1;
})

got_later : (q : Question) (before mid : World) (answer : Option (Answer q)) → Took q before mid (got answer)
    → Later (counts before) (counts mid)
got_later q before mid None took = failed_later q before mid took
got_later q before mid (Some answer) took = same_later _ _ (gave_counts q before mid answer took)

pub counts_never_fall : {R A : Type 0} → CountsNeverFall R A
unfolding Runs
counts_never_fall (gives v) before later end run = same_later _ _ (ap counts run.0)
counts_never_fall (stops refusal) before later end run = same_later _ _ (ap counts run.0)
counts_never_fall (needs q next) before later end (inl (answer, mid, took, rest)) =
    later_later _ _ _ (same_later _ _ (gave_counts q before mid answer took))
    (counts_never_fall (next answer) mid later end rest)
counts_never_fall (needs q next) before later end (inr (inl faulted)) = failed_later q before later faulted.0
counts_never_fall (needs q next) before later end (inr (inr (inl same, gives_up))) =
    same_later _ _ (ap counts same)
counts_never_fall (needs q next) before later end (inr (inr (inr took, gives_up))) =
    same_later _ _ (exhausted_counts q before later took)
counts_never_fall (tries q next) before later end (inl (answer, mid, took, rest)) =
    later_later _ _ _ (got_later q before mid answer took)
    (counts_never_fall (next answer) mid later end rest)
counts_never_fall (tries q next) before later end (inr (inl same, gives_up)) = same_later _ _ (ap counts same)
counts_never_fall (tries q next) before later end (inr (inr took, gives_up)) =
    same_later _ _ (exhausted_counts q before later took)

pub rose_on : (q : Question) (before mid after : Counts) → RoseBy q before mid → Later mid after
    → RoseBy q before after
rose_on (file name limit) before mid after rose later = omega (arith, later.store name)
rose_on (judge name alg message signature) before mid after rose later = omega (arith, later.device)
rose_on (sign name message) before mid after rose later = omega (arith, later.device)
rose_on time before mid after rose later = omega (arith, later.clock)
rose_on (write text) before mid after rose later = omega (arith, later.sink)

pub rose_since : (q : Question) (before mid after : Counts) → Later before mid → RoseBy q mid after
    → RoseBy q before after
rose_since (file name limit) before mid after later rose = omega (arith, later.store name)
rose_since (judge name alg message signature) before mid after later rose = omega (arith, later.device)
rose_since (sign name message) before mid after later rose = omega (arith, later.device)
rose_since time before mid after later rose = omega (arith, later.clock)
rose_since (write text) before mid after later rose = omega (arith, later.sink)

-- ---- causes

asked_next : {R A : Type 0} (q : Question) (next : Answer q
    → Tree R A) (answer : Answer q) (before mid after : Counts) (f : Fault)
    → Later before mid → Cause (next answer) mid after f → Cause (needs q next) before after f
unfolding MayAsk
asked_next q next answer before mid after f later cause = record {
  question = cause.question;
  asked = inr (answer, cause.asked);
  object = cause.object;
  rose = rose_since cause.question before mid after later cause.rose;
}

tried_next : {R A : Type 0} (q : Question) (next : Option (Answer q) → Tree R A) (answer : Option (Answer q))
    (before mid after : Counts) (f : Fault)
    → Later before mid → Cause (next answer) mid after f → Cause (tries q next) before after f
unfolding MayAsk
tried_next q next answer before mid after f later cause = record {
  question = cause.question;
  asked = inr (answer, cause.asked);
  object = cause.object;
  rose = rose_since cause.question before mid after later cause.rose;
}

asked_first : {R A : Type 0} (q : Question) (next : Answer q → Tree R A) (before after : Counts) (f : Fault)
    → f ≡ fault_of q → RoseBy q before after → Cause (needs q next) before after f
unfolding MayAsk
asked_first q next before after f is rose = record {
  question = q;
  asked = inl refl;
  object = sym is;
  rose =
      rose;
}

pub faults_have_causes : {R A : Type 0} → FaultsHaveCauses R A
unfolding Runs
faults_have_causes (gives v) before later f run = absurd run.1
faults_have_causes (stops refusal) before later f run = absurd run.1
faults_have_causes (needs q next) before later f (inl (answer, mid, took, rest)) =
    asked_next q next answer _ (counts mid) _ f (same_later _ _ (gave_counts q before mid answer took))
    (faults_have_causes (next answer) mid later f rest)
faults_have_causes (needs q next) before later f (inr (inl faulted)) = asked_first q next _ _ f faulted.1
    (failed_counts q before later faulted.0)
faults_have_causes (needs q next) before later f (inr (inr given_up)) = absurd given_up.1
faults_have_causes (tries q next) before later f (inl (answer, mid, took, rest)) =
    tried_next q next answer _ (counts mid) _ f (got_later q before mid answer took)
    (faults_have_causes (next answer) mid later f rest)
faults_have_causes (tries q next) before later f (inr given_up) = absurd given_up.1

-- ---- where no fault is passed over

pub no_fault_is : {R A : Type 0} (T : Type 0) (f : Fault) (end : Ending R A) → Faults f end → IsNoFault end
    → T
no_fault_is T f (value v) faults none = absurd faults
no_fault_is T f (refused refusal) faults none = absurd faults
no_fault_is T f (fault g) faults none = absurd none
no_fault_is T f out_of_memory faults none = absurd faults

pub counts_stay : {R A : Type 0} → CountsStay R A
unfolding Runs Insists
counts_stay (gives v) before later end insists run none = ap counts run.0
counts_stay (stops refusal) before later end insists run none = ap counts run.0
counts_stay (needs q next) before later end insists (inl (answer, mid, took, rest)) none =
    counts_stay (next answer) mid later end (insists answer) rest none ∙ gave_counts q before mid answer took
counts_stay (needs q next) before later end insists (inr (inl faulted)) none =
    no_fault_is _ (fault_of q) end faulted.1 none
counts_stay (needs q next) before later end insists (inr (inr (inl same, gives_up))) none = ap counts same
counts_stay (needs q next) before later end insists (inr (inr (inr took, gives_up))) none =
    exhausted_counts q before later took
counts_stay (tries q next) before later end insists run none = absurd insists
