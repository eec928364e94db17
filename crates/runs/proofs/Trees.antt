-- One call, and then another.
use Rattle.std.proofs.Common.{◌≡◌, inl, inr, Option, Some, None, refl, sym, subst, ap}
use Rattle.runs.specs.Runs.{Ending, value, refused, fault, out_of_memory, map_ending, Refuses, Faults}
use Rattle.runs.specs.Runs.{GivesUp, Runs}
use Rattle.runs.specs.Tree.{Tree, gives, stops, needs, tries, bind, map_stops, unless}
use Rattle.runs.specs.World.{World, fault_of}

-- a tree was run to its value, and then the tree that comes by it
pub runs_then : {R A B : Type 0} (t : Tree R A) (k : A → Tree R B) (before mid after : World) (a : A)
    (end : Ending R B)
    → Runs t before mid (value a) → Runs (k a) mid after end → Runs (bind t k) before after end
unfolding bind Runs
runs_then (gives v) k before mid after a end one two =
    subst (λ (w : World). Runs (k v) w after end) one.0 (subst (λ x. Runs (k x) mid after end) one.1 two)
runs_then (stops refusal) k before mid after a end one two = absurd one.1
runs_then (needs q next) k before mid after a end (inl (answer, between, took, rest)) two =
    inl (answer, between, took, runs_then (next answer) k between mid after a end rest two)
runs_then (needs q next) k before mid after a end (inr (inl faulted)) two = absurd faulted.1
runs_then (needs q next) k before mid after a end (inr (inr given_up)) two = absurd given_up.1
runs_then (tries q next) k before mid after a end (inl (answer, between, took, rest)) two =
    inl (answer, between, took, runs_then (next answer) k between mid after a end rest two)
runs_then (tries q next) k before mid after a end (inr given_up) two = absurd given_up.1

-- memory may run out before anything is asked
pub runs_out : {R A : Type 0} (t : Tree R A) (now : World) → Runs t now now out_of_memory
unfolding Runs
runs_out (gives v) now = (refl, tt)
runs_out (stops refusal) now = (refl, tt)
runs_out (needs q next) now = inr (inr (inl refl, tt))
runs_out (tries q next) now = inr (inl refl, tt)

-- ---- early ends: the same end of both, by no value

-- an end of one call that ends the next one too
abbrev pub IsEarly : {R A B : Type 0} → Ending R A → Ending R B → Type 0
IsEarly (value v) other = ⊥
IsEarly (refused refusal) other = other ≡ refused refusal
IsEarly (fault f) other = other ≡ fault f
IsEarly out_of_memory other = other ≡ out_of_memory

early_at : {R A B : Type 0} (t : Tree R A) (k : A → Tree R B) (before after : World) (end : Ending R A)
    (other : Ending R B)
    → Runs t before after end → IsEarly end other → Runs (bind t k) before after other
unfolding bind Runs
early_at (gives v) k before after (value w) other one early = absurd early
early_at (gives v) k before after (refused refusal) other one early = absurd one.1
early_at (gives v) k before after (fault f) other one early = absurd one.1
early_at (gives v) k before after out_of_memory other one early =
    subst (λ (w : World). Runs (k v) before w other) (sym one.0) (subst (λ (e : Ending _ _).
    Runs (k v) before before e) (sym early) (runs_out (k v) before))
early_at (stops wanted) k before after (value w) other one early = absurd early
early_at (stops wanted) k before after (refused refusal) other one early =
    (one.0, subst (λ (e : Ending _ _). Refuses wanted e) (sym early) one.1)
early_at (stops wanted) k before after (fault f) other one early = absurd one.1
early_at (stops wanted) k before after out_of_memory other one early =
    (one.0, subst (λ (e : Ending _ _). Refuses wanted e) (sym early) tt)
early_at (needs q next) k before after end other (inl (answer, between, took, rest)) early =
    inl (answer, between, took, early_at (next answer) k between after end other rest early)
early_at (needs q next) k before after (value w) other (inr (inl faulted)) early = absurd early
early_at (needs q next) k before after (refused refusal) other (inr (inl faulted)) early = absurd faulted.1
early_at (needs q next) k before after (fault f) other (inr (inl faulted)) early =
    inr (inl (faulted.0, subst (λ (e : Ending _ _). Faults (fault_of q) e) (sym early) faulted.1))
early_at (needs q next) k before after out_of_memory other (inr (inl faulted)) early = absurd faulted.1
early_at (needs q next) k before after (value w) other (inr (inr given_up)) early = absurd early
early_at (needs q next) k before after (refused refusal) other (inr (inr given_up)) early = absurd given_up.1
early_at (needs q next) k before after (fault f) other (inr (inr given_up)) early = absurd given_up.1
early_at (needs q next) k before after out_of_memory other (inr (inr given_up)) early =
    inr (inr (given_up.0, subst (λ (e : Ending _ _). GivesUp e) (sym early) tt))
early_at (tries q next) k before after end other (inl (answer, between, took, rest)) early =
    inl (answer, between, took, early_at (next answer) k between after end other rest early)
early_at (tries q next) k before after (value w) other (inr given_up) early = absurd early
early_at (tries q next) k before after (refused refusal) other (inr given_up) early = absurd given_up.1
early_at (tries q next) k before after (fault f) other (inr given_up) early = absurd given_up.1
early_at (tries q next) k before after out_of_memory other (inr given_up) early =
    inr (given_up.0, subst (λ (e : Ending _ _). GivesUp e) (sym early) tt)

-- a tree was run to an early end, and nothing after it
pub runs_early : {R A B : Type 0} (t : Tree R A) (k : A → Tree R B) (before after : World) (end : Ending R A)
    (other : Ending R B)
    → Runs t before after end → IsEarly end other → Runs (bind t k) before after other
runs_early = early_at

-- ---- refusals for others

mapped : {R S A : Type 0} (f : R → S) (t : Tree R A) (before after : World) (end : Ending R A)
    → Runs t before after end → Runs (map_stops f t) before after (map_ending f end)
unfolding map_stops Runs
mapped f (gives v) before after (value w) run = run
mapped f (gives v) before after (refused refusal) run = absurd run.1
mapped f (gives v) before after (fault g) run = absurd run.1
mapped f (gives v) before after out_of_memory run = run
mapped f (stops wanted) before after (value w) run = absurd run.1
mapped f (stops wanted) before after (refused refusal) run = (run.0, ap f run.1)
mapped f (stops wanted) before after (fault g) run = absurd run.1
mapped f (stops wanted) before after out_of_memory run = run
mapped f (needs q next) before after end (inl (answer, mid, took, rest)) =
    inl (answer, mid, took, mapped f (next answer) mid after end rest)
mapped f (needs q next) before after (value w) (inr (inl faulted)) = absurd faulted.1
mapped f (needs q next) before after (refused refusal) (inr (inl faulted)) = absurd faulted.1
mapped f (needs q next) before after (fault g) (inr (inl faulted)) = inr (inl faulted)
mapped f (needs q next) before after out_of_memory (inr (inl faulted)) = absurd faulted.1
mapped f (needs q next) before after (value w) (inr (inr given_up)) = absurd given_up.1
mapped f (needs q next) before after (refused refusal) (inr (inr given_up)) = absurd given_up.1
mapped f (needs q next) before after (fault g) (inr (inr given_up)) = absurd given_up.1
mapped f (needs q next) before after out_of_memory (inr (inr given_up)) = inr (inr given_up)
mapped f (tries q next) before after end (inl (answer, mid, took, rest)) =
    inl (answer, mid, took, mapped f (next answer) mid after end rest)
mapped f (tries q next) before after (value w) (inr given_up) = absurd given_up.1
mapped f (tries q next) before after (refused refusal) (inr given_up) = absurd given_up.1
mapped f (tries q next) before after (fault g) (inr given_up) = absurd given_up.1
mapped f (tries q next) before after out_of_memory (inr given_up) = inr given_up

-- a tree was run, and its refusal is another's
pub runs_mapped : {R S A : Type 0} (f : R → S) (t : Tree R A) (before after : World) (end : Ending R A)
    → Runs t before after end → Runs (map_stops f t) before after (map_ending f end)
runs_mapped = mapped

-- where it was refused, memory may run out for the refusal
pub runs_unrefused : {R A : Type 0} (t : Tree R A) (before after : World) (rule : R)
    → Runs t before after (refused rule) → Runs t before after out_of_memory
unfolding Runs
runs_unrefused (gives v) before after rule run = absurd run.1
runs_unrefused (stops refusal) before after rule run = (run.0, tt)
runs_unrefused (needs q next) before after rule (inl (answer, mid, took, rest)) =
    inl (answer, mid, took, runs_unrefused (next answer) mid after rule rest)
runs_unrefused (needs q next) before after rule (inr (inl faulted)) = absurd faulted.1
runs_unrefused (needs q next) before after rule (inr (inr given_up)) = absurd given_up.1
runs_unrefused (tries q next) before after rule (inl (answer, mid, took, rest)) =
    inl (answer, mid, took, runs_unrefused (next answer) mid after rule rest)
runs_unrefused (tries q next) before after rule (inr given_up) = absurd given_up.1

-- ---- leaves

pub runs_gives : {A : Type 0} (R : Type 0) (wanted v : A) (now : World) → v ≡ wanted
    → Runs {R = R} (gives wanted) now now (value v)
unfolding Runs
runs_gives R wanted v now same = (refl, same)

pub runs_stops : {R : Type 0} (A : Type 0) (wanted refusal : R) (now : World) → refusal ≡ wanted
    → Runs {A = A} (stops wanted) now now (refused refusal)
unfolding Runs
runs_stops A wanted refusal now same = (refl, same)

-- ---- a tree that is another

pub runs_as : {R A : Type 0} (t other : Tree R A) (before after : World) (end : Ending R A) → t ≡ other
    → Runs other before after end → Runs t before after end
runs_as t other before after end same runs = subst (λ (x : Tree _ _). Runs x before after end) (sym same) runs

-- no rule of a table is broken
pub runs_past : {R A : Type 0} (broken : Option R) (rest : Tree R A) (before after : World) (end : Ending R A)
    → broken ≡ None → Runs rest before after end → Runs (unless broken rest) before after end
runs_past broken rest before after end none runs = runs_as _ _ before after end (ap (λ (b : Option _).
    unless b rest) none) runs

-- a rule of a table is broken
pub runs_broken : {R A : Type 0} (broken : Option R) (rule : R) (rest : Tree R A) (now : World)
    → broken ≡ Some rule → Runs (unless broken rest) now now (refused rule)
runs_broken broken rule rest now some = runs_as _ _ now now (refused rule) (ap (λ (b : Option _).
    unless b rest) some) (runs_stops _ rule rule now refl)

-- ---- grouping

-- three trees in a row, however they are grouped
pub runs_grouped : {R A B C : Type 0} (t : Tree R A) (k : A → Tree R B) (h : B
    → Tree R C) (before after : World) (end : Ending R C)
    → Runs (bind t (λ a. bind (k a) h)) before after end → Runs (bind (bind t k) h) before after end
unfolding bind Runs
runs_grouped (gives v) k h before after end run = run
runs_grouped (stops refusal) k h before after end run = run
runs_grouped (needs q next) k h before after end (inl (answer, mid, took, rest)) =
    inl (answer, mid, took, runs_grouped (next answer) k h mid after end rest)
runs_grouped (needs q next) k h before after end (inr (inl faulted)) = inr (inl faulted)
runs_grouped (needs q next) k h before after end (inr (inr given_up)) = inr (inr given_up)
runs_grouped (tries q next) k h before after end (inl (answer, mid, took, rest)) =
    inl (answer, mid, took, runs_grouped (next answer) k h mid after end rest)
runs_grouped (tries q next) k h before after end (inr given_up) = inr given_up
