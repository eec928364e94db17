-- Finding fits place by place, so that those before the place are found.
use Rattle.std.proofs.Common.{◌≡◌, ℕ, ◌+◌, ◌<◌, ◌↔◌, ◌⊎◌, inl, inr, List, [], ◌∷◌, ◌++◌, refl, sym, ap, ◌∙◌}
use Rattle.std.proofs.Common.{subst, arith}
use Rattle.std.specs.declared.cmp.Ordering.{Ordering}
use Rattle.std.specs.declared.cmp.Ordering.TheVariants.{Less, Equal, Greater}
use Rattle.std.specs.List.{Contains, AllByRecursion}
use Rattle.std.specs.List.Sorted.{IsStrictlySortedBy}
use Rattle.std.specs.Ordering.{nat_cmp, ordering_then, MatchOrdering}
use Rattle.std.proofs.lemmas.Cmp.{ranked}
use Rattle.std.proofs.lemmas.List.Elements.{Contains-push, Contains-append_left, Contains-append_right}
use Rattle.std.proofs.lemmas.List.Elements.{Contains-push_cases}
use Rattle.dcql_answers.specs.declared.fits.Fit.{Fit}
use Rattle.dcql_answers.specs.Fits.{fit_of, fit_cmp}
use Rattle.fit_table.specs.code.Found.{Before, FoundBefore}

-- ---- numbers

less_by : (m n : ℕ) (o : Ordering) → MatchOrdering o (m < n) (m ≡ n) (n < m) → m < n → o ≡ Less
less_by m n Less k h = refl
less_by m n Equal k h = absurd (omega arith)
less_by m n Greater k h = absurd (omega arith)

less : (m n : ℕ) → m < n → nat_cmp m n ≡ Less
less m n h = less_by m n (nat_cmp m n) (ranked m n (nat_cmp m n) refl) h

equal_by : (m n : ℕ) (o : Ordering) → MatchOrdering o (m < n) (m ≡ n) (n < m) → m ≡ n → o ≡ Equal
equal_by m n Less k h = absurd (omega arith)
equal_by m n Equal k h = refl
equal_by m n Greater k h = absurd (omega arith)

equal : (m n : ℕ) → m ≡ n → nat_cmp m n ≡ Equal
equal m n h = equal_by m n (nat_cmp m n) (ranked m n (nat_cmp m n) refl) h

last_by : (m n : ℕ) (o : Ordering) → MatchOrdering o (m < n) (m ≡ n) (n < m) → m < n + 1
    → (m < n) ⊎ (m ≡ n)
last_by m n Less k h = inl k
last_by m n Equal k h = inr k
last_by m n Greater k h = absurd (omega arith)

last : (m n : ℕ) → m < n + 1 → (m < n) ⊎ (m ≡ n)
last m n h = last_by m n (nat_cmp m n) (ranked m n (nat_cmp m n) refl) h

-- ---- places

abbrev pub at : ℕ → ℕ → ℕ → Fit
at q c s = fit_of (q, c, s)

same_fit : (q c s : ℕ) (f : Fit) → f.query ≡ q → f.credential ≡ c → f.set ≡ s → f ≡ at q c s
same_fit q c s f a b d =
    ap (λ x. at x f.credential f.set) a ∙ ap (λ x. at q x f.set) b ∙ ap (λ x. at q c x) d

abbrev BeforeIn : ℕ → ℕ → Fit → Type 0
BeforeIn c s f = (f.credential < c) ⊎ ((f.credential ≡ c) × (f.set < s))

less_in : (c s : ℕ) (f : Fit) → BeforeIn c s f
    → ordering_then (nat_cmp f.credential c) (nat_cmp f.set s) ≡ Less
less_in c s f (inl h) = ap (λ o. ordering_then o (nat_cmp f.set s)) (less f.credential c h)
less_in c s f (inr b) =
    ap (λ o. ordering_then o (nat_cmp f.set s)) (equal f.credential c b.0) ∙ less f.set s b.1

before_less : (q c s : ℕ) (f : Fit) → Before q c s f → fit_cmp f (at q c s) ≡ Less
before_less q c s f (inl h) =
    ap (λ o. ordering_then o (ordering_then (nat_cmp f.credential c) (nat_cmp f.set s))) (less f.query q h)
before_less q c s f (inr b) =
    ap (λ o. ordering_then o (ordering_then (nat_cmp f.credential c) (nat_cmp f.set s)))
    (equal f.query q b.0)
    ∙ less_in c s f b.1

-- what is before the next claim set is before this one, or there
split_set : (q c s : ℕ) (f : Fit) → f.query ≡ q → f.credential ≡ c → (f.set < s) ⊎ (f.set ≡ s)
    → Before q c s f ⊎ (f ≡ at q c s)
split_set q c s f a b (inl h) = inl (inr (a, inr (b, h)))
split_set q c s f a b (inr e) = inr (same_fit q c s f a b e)

split_in : (q c s : ℕ) (f : Fit) → f.query ≡ q → BeforeIn c (s + 1) f → Before q c s f ⊎ (f ≡ at q c s)
split_in q c s f a (inl h) = inl (inr (a, inl h))
split_in q c s f a (inr b) = split_set q c s f a b.0 (last f.set s b.1)

split : (q c s : ℕ) (f : Fit) → Before q c (s + 1) f → Before q c s f ⊎ (f ≡ at q c s)
split q c s f (inl h) = inl (inl h)
split q c s f (inr b) = split_in q c s f b.0 b.1

later_in : (q c s : ℕ) (f : Fit) → f.query ≡ q → BeforeIn c s f → Before q c (s + 1) f
later_in q c s f a (inl h) = inr (a, inl h)
later_in q c s f a (inr b) = let h : f.set < s + 1 = omega (arith, b.1) in inr (a, inr (b.0, h))

later_set : (q c s : ℕ) (f : Fit) → Before q c s f → Before q c (s + 1) f
later_set q c s f (inl h) = inl h
later_set q c s f (inr b) = later_in q c s f b.0 b.1

here : (q c s : ℕ) (f : Fit) → at q c s ≡ f → Before q c (s + 1) f
here q c s f e = subst (Before q c (s + 1)) e (let h : s < s + 1 = omega arith in inr (refl, inr (refl, h)))

-- ---- one more claim set

sorted_push : {X : Type 0} (R : X → X → Ordering) (xs : List X) (y : X)
    → ((x : X) → Contains xs x → R x y ≡ Less) → IsStrictlySortedBy R xs → IsStrictlySortedBy R (xs ++ y ∷ [])
unfolding IsStrictlySortedBy
sorted_push R [] y below up = (tt, tt)
sorted_push {X = X} R (x ∷ xs) y below up = (
  push_all xs up.0,
  sorted_push R xs y (λ z h. below z (Contains-append_right (x ∷ []) xs z h)) up.1,
) where
  push_all : (zs : List X) → AllByRecursion (λ z. R x z ≡ Less) zs
      → AllByRecursion (λ z. R x z ≡ Less) (zs ++ y ∷ [])
  push_all [] a = (below x (Contains-append_left (x ∷ []) xs x (Contains-push [] x)), tt)
  push_all (z ∷ zs) a = (a.0, push_all zs a.1)

pub found_here : (P : Fit → Type 0) (q c s : ℕ) (found : List Fit) → FoundBefore P q c s found → P (at q c s)
    → FoundBefore P q c (s + 1) (found ++ at q c s ∷ [])
found_here P q c s found before fits = record {
  ascending = sorted_push fit_cmp found (at q c s) (λ f h. before_less q c s f ((before.exact f).0 h).1)
      before.ascending;
  exact = λ f. (λ h. to f (Contains-push_cases found (at q c s) f h), λ h. from f h.0 (split q c s f h.1));
} where
  to : (f : Fit) → Contains found f ⊎ (at q c s ≡ f) → P f × Before q c (s + 1) f
  to f (inl h) = (((before.exact f).0 h).0, later_set q c s f ((before.exact f).0 h).1)
  to f (inr e) = (subst P e fits, here q c s f e)

  from : (f : Fit) → P f → Before q c s f ⊎ (f ≡ at q c s) → Contains (found ++ at q c s ∷ []) f
  from f p (inl b) = Contains-append_left found (at q c s ∷ []) f ((before.exact f).1 (p, b))
  from f p (inr e) = subst (Contains (found ++ at q c s ∷ [])) (sym e) (Contains-push found (at q c s))

pub none_here : (P : Fit → Type 0) (q c s : ℕ) (found : List Fit) → FoundBefore P q c s found
    → (P (at q c s) → ⊥) → FoundBefore P q c (s + 1) found
none_here P q c s found before excluded = record {
  ascending = before.ascending;
  exact = λ f. (
    λ h. (((before.exact f).0 h).0, later_set q c s f ((before.exact f).0 h).1),
    λ h. from f h.0 (split q c s f h.1),
  );
} where
  from : (f : Fit) → P f → Before q c s f ⊎ (f ≡ at q c s) → Contains found f
  from f p (inl b) = (before.exact f).1 (p, b)
  from f p (inr e) = absurd (excluded (subst P e p))

-- ---- one more credential, after its last claim set

to_credential : (q c n : ℕ) (f : Fit) → Before q c n f → Before q (c + 1) 0 f
to_credential q c n f (inl h) = inl h
to_credential q c n f (inr b) = by b.0 b.1 where
  by : f.query ≡ q → BeforeIn c n f → Before q (c + 1) 0 f
  by e (inl h) = let k : f.credential < c + 1 = omega (arith, h) in inr (e, inl k)
  by e (inr p) = let k : f.credential < c + 1 = omega (arith, p.0) in inr (e, inl k)

from_credential : (q c n : ℕ) (f : Fit) → (f.query ≡ q → f.credential ≡ c → f.set < n)
    → Before q (c + 1) 0 f → Before q c n f
from_credential q c n f few (inl h) = inl h
from_credential q c n f few (inr b) = by b.0 b.1 where
  in_credential : f.query ≡ q → (f.credential < c) ⊎ (f.credential ≡ c) → Before q c n f
  in_credential e (inl h) = inr (e, inl h)
  in_credential e (inr k) = inr (e, inr (k, few e k))

  by : f.query ≡ q → BeforeIn (c + 1) 0 f → Before q c n f
  by e (inl h) = in_credential e (last f.credential c h)
  by e (inr p) = absurd (omega (arith, p.1))

pub next_credential : (P : Fit → Type 0) (q c n : ℕ) (found : List Fit) → FoundBefore P q c n found
    → ((f : Fit) → P f → f.query ≡ q → f.credential ≡ c → f.set < n) → FoundBefore P q (c + 1) 0 found
next_credential P q c n found before few = record {
  ascending = before.ascending;
  exact = λ f. (
    λ h. (((before.exact f).0 h).0, to_credential q c n f ((before.exact f).0 h).1),
    λ h. (before.exact f).1 (h.0, from_credential q c n f (few f h.0) h.1),
  );
}

-- ---- one more credential query, after its last credential

to_query : (q n : ℕ) (f : Fit) → Before q n 0 f → Before (q + 1) 0 0 f
to_query q n f (inl h) = let k : f.query < q + 1 = omega (arith, h) in inl k
to_query q n f (inr b) = let k : f.query < q + 1 = omega (arith, b.0) in inl k

from_query : (q n : ℕ) (f : Fit) → (f.query ≡ q → f.credential < n) → Before (q + 1) 0 0 f → Before q n 0 f
from_query q n f few (inl h) = by (last f.query q h) where
  by : (f.query < q) ⊎ (f.query ≡ q) → Before q n 0 f
  by (inl k) = inl k
  by (inr e) = inr (e, inl (few e))
from_query q n f few (inr b) = none b.1 where
  none : BeforeIn 0 0 f → Before q n 0 f
  none (inl h) = absurd (omega (arith, h))
  none (inr p) = absurd (omega (arith, p.1))

pub next_query : (P : Fit → Type 0) (q n : ℕ) (found : List Fit) → FoundBefore P q n 0 found
    → ((f : Fit) → P f → f.query ≡ q → f.credential < n) → FoundBefore P (q + 1) 0 0 found
next_query P q n found before few = record {
  ascending = before.ascending;
  exact = λ f. (
    λ h. (((before.exact f).0 h).0, to_query q n f ((before.exact f).0 h).1),
    λ h. (before.exact f).1 (h.0, from_query q n f (few f h.0) h.1),
  );
}

-- ---- the begin and the end

pub none_found : (P : Fit → Type 0) → FoundBefore P 0 0 0 []
unfolding IsStrictlySortedBy
none_found P = record {
  ascending = tt;
  exact = λ f. (λ h. absurd (omega (arith, h.1)), λ h. absurd (by f h.1));
} where
  by_credential : (f : Fit) → BeforeIn 0 0 f → ⊥
  by_credential f (inl h) = omega (arith, h)
  by_credential f (inr p) = omega (arith, p.1)

  by : (f : Fit) → Before 0 0 0 f → ⊥
  by f (inl h) = omega (arith, h)
  by f (inr b) = by_credential f b.1

pub all_found : (P : Fit → Type 0) (n : ℕ) (found : List Fit) → FoundBefore P n 0 0 found
    → ((f : Fit) → P f → f.query < n) → (f : Fit) → (Contains found f ↔ P f)
all_found P n found before few f = (λ h. ((before.exact f).0 h).0, λ p. (before.exact f).1 (p, inl (few f p)))
