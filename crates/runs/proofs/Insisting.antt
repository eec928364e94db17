-- Trees that pass over no fault.
use Rattle.std.proofs.Common.{List, [], ◌∷◌, Option, None, Some}
use Rattle.runs.specs.Counts.{Insists}
use Rattle.runs.specs.Tree.{Tree, gives, stops, needs, tries, bind, each, map_stops, unless}

pub insists_bind : {R A B : Type 0} (t : Tree R A) (k : A → Tree R B) → Insists t → ((a : A) → Insists (k a))
    → Insists (bind t k)
unfolding bind Insists
insists_bind (gives v) k one two = two v
insists_bind (stops refusal) k one two = tt
insists_bind (needs q next) k one two = λ answer. insists_bind (next answer) k (one answer) two
insists_bind (tries q next) k one two = absurd one

pub insists_gives : {A : Type 0} (R : Type 0) (v : A) → Insists {R = R} (gives v)
unfolding Insists
insists_gives R v = tt

pub insists_stops : {R : Type 0} (A : Type 0) (refusal : R) → Insists {A = A} (stops refusal)
unfolding Insists
insists_stops A refusal = tt

pub insists_unless : {R A : Type 0} (refusal : Option R) (t : Tree R A) → Insists t
    → Insists (unless refusal t)
insists_unless None t one = one
insists_unless (Some refusal) t one = insists_stops _ refusal

pub insists_each : {R X Y : Type 0} (tree : X → Tree R Y) (xs : List X) → ((x : X) → Insists (tree x))
    → Insists (each tree xs)
unfolding each
insists_each tree [] one = insists_gives _ []
insists_each tree (x ∷ xs) one =
    insists_bind (tree x) _ (one x) (λ y. insists_bind (each tree xs) _ (insists_each tree xs one) (λ ys.
    insists_gives _ (y ∷ ys)))

pub insists_mapped : {R S A : Type 0} (f : R → S) (t : Tree R A) → Insists t → Insists (map_stops f t)
unfolding map_stops Insists
insists_mapped f (gives v) one = tt
insists_mapped f (stops refusal) one = tt
insists_mapped f (needs q next) one = λ answer. insists_mapped f (next answer) (one answer)
insists_mapped f (tries q next) one = absurd one
