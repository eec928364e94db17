-- A stable sort puts a list in one order: that of inserting its elements one after another, from the last.
use Rattle.std.proofs.Common.{◌≡◌, ◌≤◌, ◌<◌, ℕ, suc, Bool, true, false, not, cond, List, []}
use Rattle.std.proofs.Common.{◌∷◌, length, map, get_or, refl, sym, ap, ◌∙◌, subst, arith, inl, inr}
use Rattle.std.specs.Prelude.{⊤}
use Rattle.std.specs.Cmp.{IsStrictWeakOrder}
use Rattle.std.specs.List.{AllByRecursion, filter}
use Rattle.std.specs.List.Sorted.{IsSortedBy, IsStableBy, ties}
use Rattle.std.proofs.lemmas.Bool.{and_parts, and_from, cases_Bool}
use Rattle.std.proofs.lemmas.List.Sorted.{sorted_far}
use Rattle.sdjwt_hiding.specs.code.InOrder.{put_by, ordered_by}

-- each element is less than none before it
abbrev Ascends : {X : Type 0} → (X → X → Bool) → List X → Type 0
Ascends lt [] = ⊤
Ascends lt (x ∷ xs) = AllByRecursion (λ y. lt y x ≡ false) xs × Ascends lt xs

all_from : {X : Type 0} (P : X → Type 0) (xs : List X) → ((i : ℕ) (d : X) → i < length xs → P (get_or xs i d))
    → AllByRecursion P xs
all_from P [] h = tt
all_from P (x ∷ xs) h = (h 0 x (omega arith), all_from P xs (λ i d w. h (suc i) d (omega arith)))

not_true : (b : Bool) → not b ≡ true → b ≡ false
not_true true e = cc
not_true false e = refl

module _ {X : Type 0} (lt : X → X → Bool) (o : IsStrictWeakOrder lt) where
  never : (x : X) → lt x x ≡ false
  never x = elim (cases_Bool (lt x x)) [ inl less ↦ o.one_way x x less | inr more ↦ more ]

  ascends_far : (xs : List X)
      → ((i j : ℕ) (d : X) → i ≤ j → j < length xs → lt (get_or xs j d) (get_or xs i d) ≡ false)
      → Ascends lt xs
  ascends_far [] far = tt
  ascends_far (x ∷ xs) far = (
    all_from (λ y. lt y x ≡ false) xs (λ i d w. far 0 (suc i) d (omega arith) (omega arith)),
    ascends_far xs (λ i j d up within. far (suc i) (suc j) d (omega arith) (omega arith)),
  )

  ascends_from : (xs : List X) → IsSortedBy lt xs → Ascends lt xs
  ascends_from xs s = ascends_far xs (λ i j d up within. sorted_far lt o xs s i j d up within)

  -- ---- the order is one

  ties_self : (x : X) → ties lt x x ≡ true
  ties_self x = and_from (not (lt x x)) (not (lt x x)) (ap not (never x)) (ap not (never x))

  kept : (x y : X) (ys : List X) → ties lt x y ≡ true → filter (ties lt x) (y ∷ ys) ≡ y
      ∷ filter (ties lt x) ys
  kept x y ys e = ap (λ b. cond b (y ∷ filter (ties lt x) ys) (filter (ties lt x) ys)) e

  passed : (x y : X) (ys : List X) → ties lt x y ≡ false → filter (ties lt x) (y ∷ ys) ≡ filter (ties lt x) ys
  passed x y ys e = ap (λ b. cond b (y ∷ filter (ties lt x) ys) (filter (ties lt x) ys)) e

  -- where one that ties with x stands among what is not less than y, x is not less than y
  not_less : (x y : X) (zs : List X) (z : X) (rest : List X) → AllByRecursion (λ w. lt w y ≡ false) zs
      → filter (ties lt x) zs ≡ z ∷ rest → lt x y ≡ false
  not_less x y [] z rest h e = absurd (cc e)
  not_less x y (w ∷ ws) z rest h e = elim (cases_Bool (ties lt x w)) [
    | inl tied ↦
        o.chain x w y (not_true (lt x w) (and_parts (not (lt x w)) (not (lt w x)) tied).0) h.0
    | inr other ↦ not_less x y ws z rest h.1 (sym (passed x w ws other) ∙ e)
  ]

  heads : (x y : X) (xs ys : List X) → x ∷ xs ≡ y ∷ ys → x ≡ y
  heads x y xs ys e = cc e

  tails : (x y : X) (xs ys : List X) → x ∷ xs ≡ y ∷ ys → xs ≡ ys
  tails x y xs ys e = cc e

  rest_same : (z x : X) (xs ys : List X) → filter (ties lt z) (x ∷ xs) ≡ filter (ties lt z) (x ∷ ys)
      → filter (ties lt z) xs ≡ filter (ties lt z) ys
  rest_same z x xs ys e = elim (cases_Bool (ties lt z x)) [
    | inl tied ↦
        tails x x (filter (ties lt z) xs) (filter (ties lt z) ys)
        (sym (kept z x xs tied) ∙ e ∙ kept z x ys tied)
    | inr other ↦ sym (passed z x xs other) ∙ e ∙ passed z x ys other
  ]

  one_order : (xs ys : List X) → Ascends lt xs → Ascends lt ys
      → ((z : X) → filter (ties lt z) xs ≡ filter (ties lt z) ys) → xs ≡ ys
  one_order [] [] a b same = refl
  one_order [] (y ∷ ys) a b same = let clash : [] ≡ y ∷ filter (ties lt y) ys = same y
      ∙ kept y y ys (ties_self y) in absurd (cc clash)
  one_order (x ∷ xs) [] a b same = let clash : x ∷ filter (ties lt x) xs ≡ [] =
      sym (kept x x xs (ties_self x)) ∙ same x in absurd (cc clash)
  one_order (x ∷ xs) (y ∷ ys) a b same =
      let up : lt x y ≡ false = not_less x y (y ∷ ys) x (filter (ties lt x) xs) (never y, b.0) (sym (same x)
      ∙ kept x x xs (ties_self x)) in
      let down : lt y x ≡ false = not_less y x (x ∷ xs) y (filter (ties lt y) ys) (never x, a.0) (same y
      ∙ kept y y ys (ties_self y)) in
      let tied : ties lt x y ≡ true = and_from (not (lt x y)) (not (lt y x)) (ap not up) (ap not down) in
      let is : x ≡ y = heads x y (filter (ties lt x) xs) (filter (ties lt x) ys)
      (sym (kept x x xs (ties_self x)) ∙ same x ∙ kept x y ys tied) in
      let again : (z : X) → filter (ties lt z) (x ∷ xs) ≡ filter (ties lt z) (x ∷ ys) =
      subst (λ w. (z : X) → filter (ties lt z) (x ∷ xs) ≡ filter (ties lt z) (w ∷ ys)) (sym is) same in
      ap (λ w. w ∷ xs) is ∙ ap (λ ws. y ∷ ws) (one_order xs ys a.1 b.1 (λ z. rest_same z x xs ys (again z)))

  -- ---- inserting keeps it

  all_put_at : (b : Bool) (P : X → Type 0) (x y : X) (ys : List X) → P x → P y → AllByRecursion P ys
      → AllByRecursion P (put_by lt x ys) → AllByRecursion P (cond b (y ∷ put_by lt x ys) (x ∷ y ∷ ys))
  all_put_at true P x y ys p q rest next = (q, next)
  all_put_at false P x y ys p q rest next = (p, (q, rest))

  all_put : (P : X → Type 0) (x : X) (ys : List X) → P x → AllByRecursion P ys
      → AllByRecursion P (put_by lt x ys)
  all_put P x [] p h = (p, tt)
  all_put P x (y ∷ ys) p h = all_put_at (lt y x) P x y ys p h.0 h.1 (all_put P x ys p h.1)

  above_more : (x y : X) (ys : List X) → lt y x ≡ false → AllByRecursion (λ z. lt z y ≡ false) ys
      → AllByRecursion (λ z. lt z x ≡ false) ys
  above_more x y [] e h = tt
  above_more x y (z ∷ ys) e h = (o.chain z y x h.0 e, above_more x y ys e h.1)

  ascends_put_at : (b : Bool) (x y : X) (ys : List X) → lt y x ≡ b → AllByRecursion (λ z. lt z y ≡ false) ys
      → Ascends lt ys → Ascends lt (put_by lt x ys) → Ascends lt (cond b (y ∷ put_by lt x ys) (x ∷ y ∷ ys))
  ascends_put_at true x y ys e first rest next =
      (all_put (λ z. lt z y ≡ false) x ys (o.one_way y x e) first, next)
  ascends_put_at false x y ys e first rest next = ((e, above_more x y ys e first), (first, rest))

  ascends_put : (x : X) (ys : List X) → Ascends lt ys → Ascends lt (put_by lt x ys)
  ascends_put x [] h = (tt, tt)
  ascends_put x (y ∷ ys) h = ascends_put_at (lt y x) x y ys refl h.0 h.1 (ascends_put x ys h.1)

  ascends_ordered : (xs : List X) → Ascends lt (ordered_by lt xs)
  ascends_ordered [] = tt
  ascends_ordered (x ∷ xs) = ascends_put x (ordered_by lt xs) (ascends_ordered xs)

  -- what ties with both ties them
  apart_at : (z x y : X) → lt y x ≡ true → ties lt z x ≡ true → ties lt z y ≡ true → ⊥
  apart_at z x y less a b =
      let first = and_parts (not (lt z x)) (not (lt x z)) a in
      let second = and_parts (not (lt z y)) (not (lt y z)) b in
      let equal : lt y x ≡ false = o.chain y z x (not_true (lt y z) second.1) (not_true (lt z x) first.0) in
      let clash : true ≡ false = sym less ∙ equal in
      cc clash

  swapped_at : (b c : Bool) (z x y : X) (ys : List X) → ties lt z x ≡ b → ties lt z y ≡ c → lt y x ≡ true
      → filter (ties lt z) (y ∷ x ∷ ys) ≡ filter (ties lt z) (x ∷ y ∷ ys)
  swapped_at true true z x y ys e f less = absurd (apart_at z x y less e f)
  swapped_at true false z x y ys e f less =
      passed z y (x ∷ ys) f ∙ kept z x ys e
      ∙ sym (kept z x (y ∷ ys) e ∙ ap (λ l. x ∷ l) (passed z y ys f))
  swapped_at false c z x y ys e f less =
      again c f ∙ sym (passed z x (y ∷ ys) e)
    where
      again : (c : Bool) → ties lt z y ≡ c → filter (ties lt z) (y ∷ x ∷ ys) ≡ filter (ties lt z) (y ∷ ys)
      again true f = kept z y (x ∷ ys) f ∙ ap (λ l. y ∷ l) (passed z x ys e) ∙ sym (kept z y ys f)
      again false f = passed z y (x ∷ ys) f ∙ passed z x ys e ∙ sym (passed z y ys f)

  behind : (z y : X) (xs ys : List X) → filter (ties lt z) xs ≡ filter (ties lt z) ys
      → filter (ties lt z) (y ∷ xs) ≡ filter (ties lt z) (y ∷ ys)
  behind z y xs ys e = ap (λ l. cond (ties lt z y) (y ∷ l) l) e

  ties_put_at : (b : Bool) (z x y : X) (ys : List X) → lt y x ≡ b
      → filter (ties lt z) (put_by lt x ys) ≡ filter (ties lt z) (x ∷ ys)
      → filter (ties lt z) (cond b (y ∷ put_by lt x ys) (x ∷ y ∷ ys)) ≡ filter (ties lt z) (x ∷ y ∷ ys)
  ties_put_at true z x y ys e next =
      behind z y (put_by lt x ys) (x ∷ ys) next ∙ swapped_at (ties lt z x) (ties lt z y) z x y ys refl refl e
  ties_put_at false z x y ys e next = refl

  ties_put : (z x : X) (ys : List X) → filter (ties lt z) (put_by lt x ys) ≡ filter (ties lt z) (x ∷ ys)
  ties_put z x [] = refl
  ties_put z x (y ∷ ys) = ties_put_at (lt y x) z x y ys refl (ties_put z x ys)

  ties_ordered : (z : X) (xs : List X) → filter (ties lt z) (ordered_by lt xs) ≡ filter (ties lt z) xs
  ties_ordered z [] = refl
  ties_ordered z (x ∷ xs) =
      ties_put z x (ordered_by lt xs) ∙ behind z x (ordered_by lt xs) xs (ties_ordered z xs)

  -- what a stable sort gives
  pub sorted_is : (xs ys : List X) → IsSortedBy lt ys → IsStableBy lt xs ys → ys ≡ ordered_by lt xs
  sorted_is xs ys s stable =
      one_order ys (ordered_by lt xs) (ascends_from ys s) (ascends_ordered xs)
      (λ z. stable z ∙ sym (ties_ordered z xs))

-- ---- by a part of each element

put_map_at : {X Y : Type 0} (f : X → Y) (lt : Y → Y → Bool) (b : Bool) (x y : X) (ys : List X)
    → map f (put_by (λ a c. lt (f a) (f c)) x ys) ≡ put_by lt (f x) (map f ys)
    → map f (cond b (y ∷ put_by (λ a c. lt (f a) (f c)) x ys) (x ∷ y ∷ ys))
    ≡ cond b (f y ∷ put_by lt (f x) (map f ys)) (f x ∷ f y ∷ map f ys)
put_map_at f lt true x y ys e = ap (λ l. f y ∷ l) e
put_map_at f lt false x y ys e = refl

put_map : {X Y : Type 0} (f : X → Y) (lt : Y → Y → Bool) (x : X) (ys : List X)
    → map f (put_by (λ a c. lt (f a) (f c)) x ys) ≡ put_by lt (f x) (map f ys)
put_map f lt x [] = refl
put_map f lt x (y ∷ ys) = put_map_at f lt (lt (f y) (f x)) x y ys (put_map f lt x ys)

pub ordered_map : {X Y : Type 0} (f : X → Y) (lt : Y → Y → Bool) (xs : List X)
    → map f (ordered_by (λ a c. lt (f a) (f c)) xs) ≡ ordered_by lt (map f xs)
ordered_map f lt [] = refl
ordered_map f lt (x ∷ xs) =
    put_map f lt x (ordered_by (λ a c. lt (f a) (f c)) xs) ∙ ap (put_by lt (f x)) (ordered_map f lt xs)
