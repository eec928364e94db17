-- Disclosures in the order of their numbers are the same disclosures.
use Rattle.std.proofs.Common.{◌≡◌, ℕ, ◌+◌, Bool, true, false, cond, List, [], ◌∷◌, map, refl, arith}
use Rattle.std.specs.Prelude.{nat_le}
use Rattle.std.specs.List.{AllByRecursion}
use Rattle.sdjwt_digests.specs.Disclosures.{Disclosed}
use Rattle.sdjwt_hiding.specs.Hiding.{Numbered, add, by_number}

-- what is added up over them
abbrev pub added_up : (Numbered → ℕ) → List Numbered → ℕ
added_up f [] = 0
added_up f (p ∷ ps) = f p + added_up f ps

sum_at : (b : Bool) (f : Numbered → ℕ) (p q : Numbered) (qs : List Numbered)
    → added_up f (add p qs) ≡ f p + added_up f qs
    → added_up f (cond b (p ∷ q ∷ qs) (q ∷ add p qs)) ≡ f p + (f q + added_up f qs)
sum_at true f p q qs e = refl
sum_at false f p q qs e = omega (arith, e)

sum_add : (f : Numbered → ℕ) (p : Numbered) (qs : List Numbered) → added_up f (add p qs) ≡ f p + added_up f qs
sum_add f p [] = refl
sum_add f p (q ∷ qs) = sum_at (nat_le p.0 q.0) f p q qs (sum_add f p qs)

pub sum_by_number : (f : Numbered → ℕ) (ps : List Numbered) → added_up f (by_number ps) ≡ added_up f ps
sum_by_number f [] = refl
sum_by_number f (p ∷ ps) = omega (arith, sum_add f p (by_number ps), sum_by_number f ps)

all_at : (b : Bool) (P : Numbered → Type 0) (p q : Numbered) (qs : List Numbered)
    → (AllByRecursion P (add p qs) → P p × AllByRecursion P qs)
    → AllByRecursion P (cond b (p ∷ q ∷ qs) (q ∷ add p qs)) → P p × (P q × AllByRecursion P qs)
all_at true P p q qs next h = h
all_at false P p q qs next h = let rest = next h.1 in (rest.0, (h.0, rest.1))

all_added : (P : Numbered → Type 0) (p : Numbered) (qs : List Numbered) → AllByRecursion P (add p qs) → P p
    × AllByRecursion P qs
all_added P p [] h = h
all_added P p (q ∷ qs) h = all_at (nat_le p.0 q.0) P p q qs (all_added P p qs) h

-- what holds of each in order held of each before
pub all_before : (P : Numbered → Type 0) (ps : List Numbered) → AllByRecursion P (by_number ps)
    → AllByRecursion P ps
all_before P [] h = tt
all_before P (p ∷ ps) h = let both = all_added P p (by_number ps) h in (both.0, all_before P ps both.1)

into_at : (b : Bool) (P : Numbered → Type 0) (p q : Numbered) (qs : List Numbered) → P p → P q
    → AllByRecursion P qs → AllByRecursion P (add p qs)
    → AllByRecursion P (cond b (p ∷ q ∷ qs) (q ∷ add p qs))
into_at true P p q qs a b rest next = (a, (b, rest))
into_at false P p q qs a b rest next = (b, next)

all_into : (P : Numbered → Type 0) (p : Numbered) (qs : List Numbered) → P p → AllByRecursion P qs
    → AllByRecursion P (add p qs)
all_into P p [] a h = (a, tt)
all_into P p (q ∷ qs) a h = into_at (nat_le p.0 q.0) P p q qs a h.0 h.1 (all_into P p qs a h.1)

pub all_after : (P : Numbered → Type 0) (ps : List Numbered) → AllByRecursion P ps
    → AllByRecursion P (by_number ps)
all_after P [] h = tt
all_after P (p ∷ ps) h = all_into P p (by_number ps) h.0 (all_after P ps h.1)

-- ---- of the disclosures alone

abbrev pub alone : List Numbered → List Disclosed
alone ps = map (λ p. p.1) ps

pub all_alone : (P : Disclosed → Type 0) (ps : List Numbered) → AllByRecursion (λ p. P p.1) ps
    → AllByRecursion P (alone ps)
all_alone P [] h = tt
all_alone P (p ∷ ps) h = (h.0, all_alone P ps h.1)

pub alone_all : (P : Disclosed → Type 0) (ps : List Numbered) → AllByRecursion P (alone ps)
    → AllByRecursion (λ p. P p.1) ps
alone_all P [] h = tt
alone_all P (p ∷ ps) h = (h.0, alone_all P ps h.1)
