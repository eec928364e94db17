-- The least of some things, the next after one of them, and the list of all that follow.
use Rattle.std.specs.Prelude.{◌≡◌, List, [], ◌∷◌, Option, Some, None, MatchOption, ⊤}
use Rattle.std.specs.List.Sorted.{IsStrictlySortedBy}
use Rattle.std.specs.declared.cmp.Ordering.{Ordering}
use Rattle.std.specs.declared.cmp.Ordering.TheVariants.{Less}
use Rattle.answered_sets.specs.Answered.{IsIn}

pub record IsLeast {A : Type 0} (P : A → Type 0) (cmp : A → A → Ordering) (x : A) : Type 0 where
  pub is : P x
  pub none_below : (y : A) → P y → cmp y x ≡ Less → ⊥

abbrev pub IsNone : {A : Type 0} → (A → Type 0) → Type 0
IsNone {A} P = (y : A) → P y → ⊥

-- the least, or none where there is none
abbrev pub IsLeastOf : {A : Type 0} → (A → Type 0) → (A → A → Ordering) → Option A → Type 0
IsLeastOf P cmp r = MatchOption r (IsNone P) (IsLeast P cmp)

-- after a, or anywhere where nothing is given
abbrev pub IsAfter : {A : Type 0} → (A → A → Ordering) → Option A → A → Type 0
IsAfter cmp None x = ⊤
IsAfter cmp (Some a) x = cmp a x ≡ Less

abbrev pub Follows : {A : Type 0} → (A → Type 0) → (A → A → Ordering) → Option A → A → Type 0
Follows P cmp a x = P x × IsAfter cmp a x

-- the next after a: none lies between
abbrev pub IsNext : {A : Type 0} → (A → Type 0) → (A → A → Ordering) → Option A → A → Type 0
IsNext P cmp a x = IsLeast (Follows P cmp a) cmp x

-- none comes after a
abbrev pub IsLast : {A : Type 0} → (A → Type 0) → (A → A → Ordering) → Option A → Type 0
IsLast P cmp a = IsNone (Follows P cmp a)

-- the next after a, or none where none comes after it
abbrev pub IsNextOf : {A : Type 0} → (A → Type 0) → (A → A → Ordering) → Option A → Option A → Type 0
IsNextOf P cmp a r = IsLeastOf (Follows P cmp a) cmp r

-- all that follow a, ascending, each once
pub record AreFollowing {A : Type 0} (P : A → Type 0) (cmp : A → A
    → Ordering) (a : Option A) (xs : List A) : Type 0 where
  pub ascends : IsStrictlySortedBy cmp xs
  pub all : (x : A) → Follows P cmp a x → IsIn x xs
  pub only : (x : A) → IsIn x xs → Follows P cmp a x

-- each is the next after the one before it, the first after a
abbrev pub AreNext : {A : Type 0} → (A → Type 0) → (A → A → Ordering) → Option A → List A → Type 0
AreNext P cmp a [] = ⊤
AreNext P cmp a (x ∷ xs) = IsNext P cmp a x × AreNext P cmp (Some x) xs

-- the last of xs, or a where there is none
abbrev pub last_of : {A : Type 0} → Option A → List A → Option A
last_of a [] = a
last_of a (x ∷ xs) = last_of (Some x) xs
