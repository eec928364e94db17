-- What is so or is not.
use Rattle.std.proofs.Common.{◌≡◌, ℕ, ◌<◌, ◌≤◌, Bool, true, false, Option, Some, None, Result, Ok, Err}
use Rattle.std.proofs.Common.{refl, inl, inr, arith, ◌⊎◌}
use Rattle.std.specs.Prelude.{nat_lt, IsSome, IsSomeAnd, IsOkAnd, IfSome}
use borrow.Author.Tests.{ltb-true, ltb-false}

abbrev pub Decided : Type 0 → Type 0
Decided P = P ⊎ (P → ⊥)

pub both : {P Q : Type 0} → Decided P → Decided Q → Decided (P × Q)
both (inl p) (inl q) = inl (p, q)
both (inl p) (inr n) = inr (λ h. n h.1)
both (inr n) q = inr (λ h. n h.0)

pub either : {P Q : Type 0} → Decided P → Decided Q → Decided (P ⊎ Q)
either (inl p) q = inl (inl p)
either (inr n) (inl q) = inl (inr q)
either {P = P} {Q = Q} (inr n) (inr m) = inr neither where
  neither : P ⊎ Q → ⊥
  neither (inl p) = n p
  neither (inr q) = m q

pub implies : {P Q : Type 0} → Decided P → Decided Q → Decided (P → Q)
implies (inl p) (inl q) = inl (λ h. q)
implies (inl p) (inr n) = inr (λ h. n (h p))
implies (inr n) q = inl (λ h. absurd (n h))

pub alike : {P Q : Type 0} → (P → Q) → (Q → P) → Decided P → Decided Q
alike f g (inl p) = inl (f p)
alike f g (inr n) = inr (λ q. n (g q))

pub is_true : (b : Bool) → Decided (b ≡ true)
is_true true = inl refl
is_true false = inr (λ e. cc e)

less_at : (i n : ℕ) (t : Bool) → nat_lt i n ≡ t → Decided (i < n)
less_at i n true e = inl (ltb-true i n e)
less_at i n false e = let k : n ≤ i = ltb-false i n e in inr (λ h. omega (arith, h, k))

pub is_less : (i n : ℕ) → Decided (i < n)
is_less i n = less_at i n (nat_lt i n) refl

most_at : (i n : ℕ) (t : Bool) → nat_lt n i ≡ t → Decided (i ≤ n)
most_at i n true e = let k : n < i = ltb-true n i e in inr (λ h. omega (arith, h, k))
most_at i n false e = inl (ltb-false n i e)

pub is_at_most : (i n : ℕ) → Decided (i ≤ n)
is_at_most i n = most_at i n (nat_lt n i) refl

pub is_some : {A : Type 0} (o : Option A) → Decided (IsSome o)
is_some None = inr (λ h. cc h)
is_some (Some x) = inl refl

pub is_some_and : {A : Type 0} (P : A → Type 0) (o : Option A) → ((x : A) → Decided (P x))
    → Decided (IsSomeAnd o P)
is_some_and P None by = inr (λ h. h)
is_some_and P (Some x) by = by x

pub if_some : {A : Type 0} (P : A → Type 0) (o : Option A) → ((x : A) → Decided (P x)) → Decided (IfSome o P)
if_some P None by = inl tt
if_some P (Some x) by = by x

pub is_ok_and : {A E : Type 0} (P : A → Type 0) (r : Result A E) → ((x : A) → Decided (P x))
    → Decided (IsOkAnd r P)
is_ok_and P (Ok x) by = by x
is_ok_and P (Err e) by = inr (λ h. h)

-- whether it is so
abbrev pub answer : {P : Type 0} → Decided P → Bool
answer (inl p) = true
answer (inr n) = false

pub when_true : {P : Type 0} (d : Decided P) → answer d ≡ true → P
when_true (inl p) e = p
when_true (inr n) e = absurd (cc e)

pub then_true : {P : Type 0} (d : Decided P) → P → answer d ≡ true
then_true (inl p) h = refl
then_true (inr n) h = absurd (n h)
