-- Trees that never ask questions of some kind.
use Rattle.std.proofs.Common.{◌≡◌, ◌⊎◌, inl, inr, refl, sym, subst, ◌∙◌, List, [], ◌∷◌, Bool, Option, None}
use Rattle.std.proofs.Common.{Some}
use Rattle.runs.specs.Counts.{MayAsk, Avoids}
use Rattle.runs.specs.Expected.{Sources, Expected, expected, expected_by, answer_of, after, clock_tells}
use Rattle.runs.specs.Expected.{IsUntold, AsksUntold, ExpectsTold}
use Rattle.runs.specs.Tree.{Question, Answer, Tree, gives, stops, needs, tries, bind, each, map_stops, unless}
use Rattle.runs.proofs.ExpectedEnds.{tells_on}

-- ---- trees

in_either : {P T U : Type 0} → (P → T) → P ⊎ U → T ⊎ U
in_either f (inl p) = inl (f p)
in_either f (inr u) = inr u

-- what two trees in a row may ask, one of them may
asked_bind : {R A B : Type 0} (t : Tree R A) (k : A → Tree R B) (q : Question) → MayAsk (bind t k) q
    → MayAsk t q ⊎ ((a : A) × MayAsk (k a) q)
unfolding bind MayAsk
asked_bind (gives v) k q asked = inr (v, asked)
asked_bind (stops refusal) k q asked = absurd asked
asked_bind (needs first next) k q (inl same) = inl (inl same)
asked_bind (needs first next) k q (inr (answer, later)) =
    in_either (λ asked. inr (answer, asked)) (asked_bind (next answer) k q later)
asked_bind (tries first next) k q (inl same) = inl (inl same)
asked_bind (tries first next) k q (inr (answer, later)) =
    in_either (λ asked. inr (answer, asked)) (asked_bind (next answer) k q later)

neither : {P : Type 0} {A : Type 0} {Q : A → Type 0} → ¬ P → ((a : A) → ¬ Q a) → P ⊎ ((a : A) × Q a) → ⊥
neither p q (inl x) = p x
neither p q (inr (a, x)) = q a x

pub avoids_bind : {R A B : Type 0} (P : Question → Type 0) (t : Tree R A) (k : A → Tree R B) → Avoids P t
    → ((a : A) → Avoids P (k a)) → Avoids P (bind t k)
avoids_bind P t k one two = λ q is asked. neither (one q is) (λ a. two a q is) (asked_bind t k q asked)

pub avoids_gives : {A : Type 0} (R : Type 0) (P : Question → Type 0) (v : A) → Avoids {R = R} P (gives v)
unfolding MayAsk
avoids_gives R P v = λ q is asked. asked

pub avoids_stops : {R : Type 0} (A : Type 0) (P : Question → Type 0) (refusal : R)
    → Avoids {A = A} P (stops refusal)
unfolding MayAsk
avoids_stops A P refusal = λ q is asked. asked

pub avoids_unless : {R A : Type 0} (P : Question → Type 0) (refusal : Option R) (t : Tree R A) → Avoids P t
    → Avoids P (unless refusal t)
avoids_unless P None t one = one
avoids_unless P (Some refusal) t one = avoids_stops _ P refusal

pub avoids_each : {R X Y : Type 0} (P : Question → Type 0) (tree : X → Tree R Y) (xs : List X)
    → ((x : X) → Avoids P (tree x)) → Avoids P (each tree xs)
unfolding each
avoids_each P tree [] one = avoids_gives _ P []
avoids_each P tree (x ∷ xs) one =
    avoids_bind P (tree x) _ (one x) (λ y. avoids_bind P (each tree xs) _ (avoids_each P tree xs one) (λ ys.
    avoids_gives _ P (y ∷ ys)))

not_first : (P : Question → Type 0) (first q : Question) → ¬ P first → P q → q ≡ first → ⊥
not_first P first q none is same = none (subst P same is)

-- another question is asked first
pub avoids_needs : {R A : Type 0} (P : Question → Type 0) (first : Question) (next : Answer first → Tree R A)
    → ¬ P first → ((answer : Answer first) → Avoids P (next answer)) → Avoids P (needs first next)
unfolding MayAsk
avoids_needs P first next none rest = λ q is asked.
    neither (not_first P first q none is) (λ answer. rest answer q is) asked

may_ask_mapped : {R S A : Type 0} (f : R → S) (t : Tree R A) (q : Question) → MayAsk (map_stops f t) q
    → MayAsk t q
unfolding map_stops MayAsk
may_ask_mapped f (gives v) q asked = asked
may_ask_mapped f (stops refusal) q asked = asked
may_ask_mapped f (needs first next) q (inl same) = inl same
may_ask_mapped f (needs first next) q (inr (answer, later)) =
    inr (answer, may_ask_mapped f (next answer) q later)
may_ask_mapped f (tries first next) q (inl same) = inl same
may_ask_mapped f (tries first next) q (inr (answer, later)) =
    inr (answer, may_ask_mapped f (next answer) q later)

pub avoids_mapped : {R S A : Type 0} (P : Question → Type 0) (f : R → S) (t : Tree R A) → Avoids P t
    → Avoids P (map_stops f t)
avoids_mapped P f t one = λ q is asked. one q is (may_ask_mapped f t q asked)

-- ---- what is expected

by_avoided : {R A X : Type 0} (tells : Bool) (q : Question) (sources : Sources) (o : Option X)
    (rest : X → Expected R A)
    → ¬ IsUntold tells q → ((x : X) → ¬ AsksUntold tells (rest x).asked)
    → ¬ AsksUntold tells (expected_by q sources o rest).asked
by_avoided tells q sources None rest first later (inl untold) = first untold
by_avoided tells q sources None rest first later (inr asks) = asks
by_avoided tells q sources (Some x) rest first later (inl untold) = first untold
by_avoided tells q sources (Some x) rest first later (inr asks) = later x asks

told_by : {R A : Type 0} (tells : Bool) (t : Tree R A) (sources : Sources) → clock_tells sources ≡ tells
    → Avoids (IsUntold tells) t → ¬ AsksUntold tells (expected t sources).asked
unfolding MayAsk
told_by tells (gives v) sources same none = λ asks. asks
told_by tells (stops refusal) sources same none = λ asks. asks
told_by tells (needs q next) sources same none =
    by_avoided tells q sources (answer_of q sources) (λ answer. expected (next answer) (after q sources))
    (λ untold. none q untold (inl refl))
    (λ answer. told_by tells (next answer) (after q sources) (tells_on q sources ∙ same)
    (λ other untold asked. none other untold (inr (answer, asked))))
told_by tells (tries q next) sources same none =
    by_avoided tells q sources (answer_of q sources)
    (λ answer. expected (next (Some answer)) (after q sources))
    (λ untold. none q untold (inl refl))
    (λ answer. told_by tells (next (Some answer)) (after q sources) (tells_on q sources ∙ same)
    (λ other untold asked. none other untold (inr (Some answer, asked))))

pub expects_told : {R A : Type 0} → ExpectsTold R A
expects_told t sources none = told_by (clock_tells sources) t sources refl none
