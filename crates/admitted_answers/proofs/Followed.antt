-- The next, taken again and again, is the list of all that follow.
use Rattle.std.proofs.Common.{◌≡◌, ℕ, ◌≤◌, Bool, true, false, List, [], ◌∷◌, ◌++◌, length, take, Option, Some}
use Rattle.std.proofs.Common.{None, refl, sym, ap, ◌∙◌, subst, inl, inr, ◌↔◌, arith, length-append}
use Rattle.std.proofs.Common.{append-nil, ◌-◌, zero, suc}
use Rattle.std.specs.Prelude.{is_none, is_some, not, IfSome}
use Rattle.std.specs.List.{AllByRecursion, slice_get}
use Rattle.std.specs.List.Sorted.{IsStrictlySortedBy}
use Rattle.std.specs.declared.cmp.Ordering.{Ordering}
use Rattle.std.specs.declared.cmp.Ordering.TheVariants.{Less}
use Rattle.std.proofs.lemmas.List.{take-append-le, take_all}
use Rattle.answered_sets.specs.Answered.{IsIn}
use Rattle.admitted_answers.specs.Least.{IsLeastOf, IsAfter, Follows, IsNext, IsLast, AreFollowing, AreNext}
use Rattle.admitted_answers.specs.Least.{last_of}
use Rattle.dcql_answers.proofs.Orders.{IsOrder, strict, not_below_itself, apart}
use Rattle.admitted_answers.proofs.OneQuery.{All_at}

All_in : {A : Type 0} (P : A → Type 0) (xs : List A) → ((x : A) → IsIn x xs → P x) → AllByRecursion P xs
All_in P [] h = tt
All_in P (x ∷ xs) h = (h x (inl refl), All_in P xs (λ y i. h y (inr i)))

after_after : {A : Type 0} {cmp : A → A → Ordering} → IsOrder cmp → (a : Option A) (x y : A) → IsAfter cmp a x
    → cmp x y ≡ Less → IsAfter cmp a y
after_after o None x y h less = tt
after_after o (Some a) x y h less = o.total.trans a x y h less

pub next_unique : {A : Type 0} {cmp : A → A → Ordering} → IsOrder cmp
    → (P : A → Type 0) (a : Option A) (x y : A) → IsNext P cmp a x → IsNext P cmp a y → x ≡ y
next_unique {A} {cmp} o P a x y h k = elim (apart cmp o x y) [
  | inl less ↦ absurd (k.none_below x h.is less)
  | inr (inl same) ↦ same
  | inr (inr more) ↦ absurd (h.none_below y k.is more)
]

-- none follow exactly where the list of all that follow is empty
pub following_none : {A : Type 0} (P : A → Type 0) (cmp : A → A → Ordering) (a : Option A)
    → AreFollowing P cmp a [] ↔ IsLast P cmp a
unfolding IsStrictlySortedBy
following_none P cmp a = (
  (λ f x h. f.all x h),
  λ last. record {
    ascends = tt;
    all = λ x h. last x h;
    only =
        λ x i. absurd i;
  },
)

-- it is the next, and then all that follow that
pub following_more : {A : Type 0} {cmp : A → A → Ordering} → IsOrder cmp
    → (P : A → Type 0) (a : Option A) (y : A) (ys : List A)
    → AreFollowing P cmp a (y ∷ ys) ↔ (IsNext P cmp a y × AreFollowing P cmp (Some y) ys)
unfolding IsStrictlySortedBy
following_more {A} {cmp} o P a y ys = (there, back) where
  there : AreFollowing P cmp a (y ∷ ys) → IsNext P cmp a y × AreFollowing P cmp (Some y) ys
  there f =
      let here = f.only y (inl refl) in (
        record {
          is = here;
          none_below = λ z h less. elim (f.all z h) [
            | inl same ↦ not_below_itself o y (subst (λ w. cmp w y ≡ Less) same less)
            | inr later ↦ strict o y z (All_at (λ w. cmp y w ≡ Less) z ys f.ascends.0 later) less
          ];
        },
        record {
          ascends = f.ascends.1;
          all = λ x h. elim (f.all x (h.0, after_after o a y x here.1 h.1)) [
            | inl same ↦ absurd (not_below_itself o y (subst (λ w. cmp y w ≡ Less) same h.1))
            | inr later ↦ later
          ];
          only = λ x later. ((f.only x (inr later)).0, All_at (λ w. cmp y w ≡ Less) x ys f.ascends.0 later);
        },
      )

  back : IsNext P cmp a y × AreFollowing P cmp (Some y) ys → AreFollowing P cmp a (y ∷ ys)
  back (next, rest) = record {
    ascends = (All_in (λ w. cmp y w ≡ Less) ys (λ x i. (rest.only x i).1), rest.ascends);
    all = λ x h. elim (apart cmp o y x) [
      | inl more ↦ inr (rest.all x (h.0, more))
      | inr (inl same) ↦ inl (sym same)
      | inr (inr less) ↦ absurd (next.none_below x h less)
    ];
    only = λ x i. elim i [
      | inl same ↦ subst (Follows P cmp a) (sym same) next.is
      | inr later ↦ let r = rest.only x later in (r.0, after_after o a y x next.is.1 r.1)
    ];
  }

-- a list of nexts is a front of all that follow, and the rest are all that follow its last
pub front_of : {A : Type 0} {cmp : A → A → Ordering} → IsOrder cmp
    → (P : A → Type 0) (a : Option A) (xs all : List A) → AreNext P cmp a xs → AreFollowing P cmp a all
    → (rest : List A) × (all ≡ xs ++ rest) × AreFollowing P cmp (last_of a xs) rest
front_of o P a [] all h f = (all, refl, f)
front_of {A} {cmp} o P a (x ∷ xs) [] h f = absurd ((following_none P cmp a).0 f x h.0.is)
front_of {A} {cmp} o P a (x ∷ xs) (y ∷ ys) h f =
    let more = (following_more o P a y ys).0 f in
    let same : x ≡ y = next_unique o P a x y h.0 more.0 in
    let rest = front_of o P (Some x) xs ys h.1 (subst (λ z. AreFollowing P cmp (Some z) ys) (sym same) more.1)
    in
    (rest.0, subst (λ z. z ∷ ys ≡ x ∷ xs ++ rest.0) same (ap (λ zs. x ∷ zs) rest.1), rest.2)

-- ---- the loop

pub last_more : {A : Type 0} (a : Option A) (xs : List A) (x : A) → last_of a (xs ++ x ∷ []) ≡ Some x
last_more a [] x = refl
last_more a (y ∷ ys) x = last_more (Some y) ys x

pub next_more : {A : Type 0} (P : A → Type 0) (cmp : A → A → Ordering) (a : Option A) (xs : List A) (x : A)
    → AreNext P cmp a xs → IsNext P cmp (last_of a xs) x → AreNext P cmp a (xs ++ x ∷ [])
next_more P cmp a [] x h next = (next, tt)
next_more P cmp a (y ∷ ys) x h next = (h.0, next_more P cmp (Some y) ys x h.1 next)

-- the last one is one of them
pub last_is : {A : Type 0} (P : A → Type 0) (cmp : A → A → Ordering) (a : Option A) (xs : List A) → IfSome a P
    → AreNext P cmp a xs → IfSome (last_of a xs) P
last_is P cmp a [] h next = h
last_is P cmp a (x ∷ xs) h next = last_is P cmp (Some x) xs next.0.is.0 next.1

-- ---- a page

no_more : {A : Type 0} {cmp : A → A → Ordering} → IsOrder cmp
    → (P : A → Type 0) (a : Option A) (rest : List A) → AreFollowing P cmp a rest → IsLast P cmp a → rest ≡ []
no_more o P a [] f last = refl
no_more o P a (x ∷ xs) f last = absurd (last x (f.only x (inl refl)))

none_left : {A : Type 0} (xs rest : List A) (n : ℕ) → length xs ≡ n → length (xs ++ rest) ≤ n → rest ≡ []
none_left xs [] n e h = refl
none_left xs (x ∷ rest) n e h = absurd (omega (arith, length-append xs (x ∷ rest)))

pub page_is : {A : Type 0} {cmp : A → A → Ordering} → IsOrder cmp
    → (P : A → Type 0) (a : Option A) (xs : List A) (end : Bool) (count : ℕ) → AreNext P cmp a xs
    → length xs ≤ count → (end ≡ false → length xs ≡ count)
    → (end ≡ true) ↔ IsLast P cmp (last_of a xs) → (all : List A) → AreFollowing P cmp a all
    → (xs ≡ take count all) × ((end ≡ true) ↔ (length all ≤ count))
page_is {A} {cmp} o P a xs true count next few full last all f =
    let rest = front_of o P a xs all next f in
    let none : rest.0 ≡ [] = no_more o P (last_of a xs) rest.0 rest.2 (last.0 refl) in
    let same : all ≡ xs = rest.1 ∙ ap (λ r. xs ++ r) none ∙ append-nil xs in (
      sym (ap (take count) same ∙ take_all count xs few),
      ((λ e. subst (λ l. length l ≤ count) (sym same) few), λ h. refl),
    )
page_is {A} {cmp} o P a xs false count next few full last all f =
    let rest = front_of o P a xs all next f in
    let e : length xs ≡ count = full refl in
    let front : take count (xs ++ rest.0) ≡ xs = let low : count ≤ length xs =
    omega arith in take-append-le count xs rest.0 low ∙ take_all count xs few in
    (sym (ap (take count) rest.1 ∙ front), ((λ x. absurd (cc x)), λ h. over rest e h)) where
      over : (rest : (r : List A) × (all ≡ xs ++ r) × AreFollowing P cmp (last_of a xs) r) → length xs ≡ count
          → length all ≤ count → false ≡ true
      over (r, cut, g) e h =
          let none : r ≡ [] = none_left xs r count e (subst (λ l. length l ≤ count) cut h) in
          last.1 ((following_none P cmp (last_of a xs)).0 (subst (AreFollowing P cmp (last_of a xs)) none g))

-- the last element, as it is read
pub last_read : {A : Type 0} (a : Option A) (xs : List A) (x : A) → Some x ≡ slice_get xs (length xs - 1)
    → Some x ≡ last_of a xs
last_read a [] x h = absurd (cc h)
last_read a (y ∷ []) x h = h
last_read a (y ∷ z ∷ zs) x h =
    let e : length (y ∷ z ∷ zs) - 1 ≡ suc (length (z ∷ zs) - 1) = omega arith in
    last_read (Some y) (z ∷ zs) x (h ∙ ap (slice_get (y ∷ z ∷ zs)) e)

pub end_is : {A : Type 0} (P : A → Type 0) (cmp : A → A
    → Ordering) (a b : Option A) (r : Option A) (end : Bool) → a ≡ b → end ≡ is_none r
    → IsLeastOf (Follows P cmp a) cmp r → (end ≡ true) ↔ IsLast P cmp b
end_is P cmp a b None end e f none = ((λ h. subst (IsLast P cmp) e none), λ last. f)
end_is P cmp a b (Some x) end e f least = (
  (λ h. absurd (let g = sym f ∙ h in cc g)),
  λ last. absurd
      (last x (subst (λ c. Follows P cmp c x) e least.is)),
)

pub admitted_last : {A : Type 0} (P : A → Type 0) (cmp : A → A
    → Ordering) (a : Option A) (xs ys : List A) (r : Option A) → IfSome a P → AreNext P cmp a xs
    → r ≡ last_of a ys → ys ≡ xs → IfSome r P
admitted_last P cmp a xs ys r h next e f =
    subst (λ o. IfSome o P) (sym (e ∙ ap (last_of a) f)) (last_is P cmp a xs h next)

pub next_found : {A : Type 0} (P : A → Type 0) (cmp : A → A
    → Ordering) (a : Option A) (xs ys zs : List A) (x : A) (l r : Option A) → AreNext P cmp a xs
    → l ≡ last_of a ys → ys ≡ xs → IsLeastOf (Follows P cmp l) cmp r → r ≡ Some x → zs ≡ xs ++ x ∷ []
    → AreNext P cmp a zs
next_found P cmp a xs ys zs x l r next e f least g h =
    let one : IsNext P cmp l x = subst (IsLeastOf (Follows P cmp l) cmp) g least in
    subst (AreNext P cmp a) (sym h) (next_more P cmp a xs x next
    (subst (λ o. IsNext P cmp o x) (e ∙ ap (last_of a) f) one))

pub none_from : {A : Type 0} (r : Option A) (t : Bool) → is_some r ≡ not t → t ≡ is_none r
none_from None true h = refl
none_from None false h = absurd (cc h)
none_from (Some x) true h = absurd (cc h)
none_from (Some x) false h = refl

-- the same at the list and the flag that are read
pub at_page : {A B : Type 0} (C : A → B → Type 0) (x y : A) (t u : B) → x ≡ y → t ≡ u → C y u → C x t
at_page C x y t u e f h = subst (λ z. C z t) (sym e) (subst (λ z. C y z) (sym f) h)

-- each of a list of nexts is one of the things
pub one_of_next : {A : Type 0} (P : A → Type 0) (cmp : A → A
    → Ordering) (a : Option A) (xs : List A) (i : ℕ) (x : A)
    → AreNext P cmp a xs → slice_get xs i ≡ Some x → P x
one_of_next P cmp a [] i x next h = absurd (cc h)
one_of_next P cmp a (y ∷ ys) zero x next h = let e : y ≡ x = cc h in subst P e next.0.is.0
one_of_next P cmp a (y ∷ ys) (suc i) x next h = one_of_next P cmp (Some y) ys i x next.1 h
