-- Things of which there is a list, and that such a list can be put in order.
use Rattle.std.proofs.Common.{◌≡◌, ℕ, Bool, true, false, cond, List, [], ◌∷◌, ◌++◌, map, refl, sym, ap, ◌∙◌}
use Rattle.std.proofs.Common.{subst, ◌⊎◌, inl, inr, ◌↔◌}
use Rattle.std.specs.Prelude.{◌==◌, ◌||◌}
use Rattle.std.specs.List.{AllByRecursion}
use Rattle.std.specs.List.Sorted.{IsStrictlySortedBy}
use Rattle.std.specs.declared.cmp.Ordering.{Ordering}
use Rattle.std.specs.declared.cmp.Ordering.TheVariants.{Less}
use Rattle.std.proofs.lemmas.Bool.{or_cases, eq-eqb, eqb-true}
use Rattle.answered_sets.specs.Answered.{IsIn}
use Rattle.dcql_answers.proofs.Orders.{IsOrder, apart}
use Rattle.admitted_answers.proofs.OneQuery.{All_at}

pub record Listed {A : Type 0} (P : A → Type 0) : Type 0 where
  pub all : List A
  pub here : (x : A) → P x → IsIn x all
  pub only : (x : A) → IsIn x all → P x

-- ---- what is in a list

in_left : {A : Type 0} (x : A) (xs ys : List A) → IsIn x xs → IsIn x (xs ++ ys)
in_left x [] ys h = absurd h
in_left x (z ∷ xs) ys (inl e) = inl e
in_left x (z ∷ xs) ys (inr h) = inr (in_left x xs ys h)

in_right : {A : Type 0} (x : A) (xs ys : List A) → IsIn x ys → IsIn x (xs ++ ys)
in_right x [] ys h = h
in_right x (z ∷ xs) ys h = inr (in_right x xs ys h)

in_either : {A : Type 0} (x : A) (xs ys : List A) → IsIn x (xs ++ ys) → IsIn x xs ⊎ IsIn x ys
in_either x [] ys h = inr h
in_either x (z ∷ xs) ys (inl e) = inl (inl e)
in_either x (z ∷ xs) ys (inr h) = elim (in_either x xs ys h) [ inl l ↦ inl (inr l) | inr r ↦ inr r ]

in_map : {A B : Type 0} (f : A → B) (x : A) (xs : List A) → IsIn x xs → IsIn (f x) (map f xs)
in_map f x [] h = absurd h
in_map f x (z ∷ xs) (inl e) = inl (ap f e)
in_map f x (z ∷ xs) (inr h) = inr (in_map f x xs h)

map_in : {A B : Type 0} (f : A → B) (y : B) (xs : List A) → IsIn y (map f xs)
    → (x : A) × IsIn x xs × (y ≡ f x)
map_in f y [] h = absurd h
map_in f y (z ∷ xs) (inl e) = (z, inl refl, e)
map_in f y (z ∷ xs) (inr h) = let r = map_in f y xs h in (r.0, inr r.1, r.2)

abbrev flat : {A B : Type 0} → (A → List B) → List A → List B
flat f [] = []
flat f (x ∷ xs) = f x ++ flat f xs

in_flat : {A B : Type 0} (f : A → List B) (x : A) (y : B) (xs : List A) → IsIn x xs → IsIn y (f x)
    → IsIn y (flat f xs)
in_flat f x y [] h k = absurd h
in_flat f x y (z ∷ xs) (inl e) k = in_left y (f z) (flat f xs) (subst (λ w. IsIn y (f w)) e k)
in_flat f x y (z ∷ xs) (inr h) k = in_right y (f z) (flat f xs) (in_flat f x y xs h k)

flat_in : {A B : Type 0} (f : A → List B) (y : B) (xs : List A) → IsIn y (flat f xs)
    → (x : A) × IsIn x xs × IsIn y (f x)
flat_in f y [] h = absurd h
flat_in f y (z ∷ xs) h = elim (in_either y (f z) (flat f xs) h) [
  | inl l ↦ (z, inl refl, l)
  | inr r ↦ let s = flat_in f y xs r in (s.0, inr s.1, s.2)
]

-- ---- lists of things

pub listed_like : {A : Type 0} (P Q : A → Type 0) → ((x : A) → P x → Q x) → ((x : A) → Q x → P x) → Listed P
    → Listed Q
listed_like P Q f g l = record { all = l.all; here = λ x q. l.here x (g x q); only = λ x i. f x (l.only x i) }

pub listed_members : {A : Type 0} (xs : List A) → Listed (λ x. IsIn x xs)
listed_members xs = record { all = xs; here = λ x i. i; only = λ x i. i }

pub listed_one : {A : Type 0} (a : A) → Listed (λ x. x ≡ a)
listed_one a = record {
  all = a ∷ [];
  here = λ x e. inl e;
  only =
      λ x i. elim i [ inl e ↦ e | inr n ↦ absurd n ];
}

pub listed_none : {A : Type 0} (P : A → Type 0) → ((x : A) → P x → ⊥) → Listed P
listed_none P none = record { all = []; here = λ x p. none x p; only = λ x i. absurd i }

pub listed_either : {A : Type 0} (P Q : A → Type 0) → Listed P → Listed Q → Listed (λ x. P x ⊎ Q x)
listed_either P Q p q = record {
  all = p.all ++ q.all;
  here = λ x h. elim h [
    | inl l ↦ in_left x p.all q.all (p.here x l)
    | inr r ↦
        in_right x p.all q.all (q.here x r)
  ];
  only = λ x i. elim (in_either x p.all q.all i) [ inl l ↦ inl (p.only x l) | inr r ↦ inr (q.only x r) ];
}

pub listed_map : {A B : Type 0} (f : A → B) (P : A → Type 0) → Listed P
    → Listed (λ y. (x : A) × P x × (y ≡ f x))
listed_map f P p = record {
  all = map f p.all;
  here = λ y h. subst (λ z. IsIn z (map f p.all)) (sym h.2) (in_map f h.0 p.all (p.here h.0 h.1));
  only = λ y i. let r = map_in f y p.all i in (r.0, p.only r.0 r.1, r.2);
}

pub listed_pairs : {A B C : Type 0} (join : A → B → C) (P : A → Type 0) (Q : A → B → Type 0) → Listed P
    → ((x : A) → Listed (Q x)) → Listed (λ z. (x : A) × (y : B) × P x × Q x y × (z ≡ join x y))
listed_pairs {A} {B} {C} join P Q p q =
    let each : A → List C = λ x. map (join x) (q x).all in
    record {
      all = flat each p.all;
      here = λ z h. in_flat each h.0 z p.all (p.here h.0 h.2)
          (subst (λ w. IsIn w (each h.0)) (sym h.4)
          (in_map (join h.0) h.1 (q h.0).all ((q h.0).here h.1 h.3)));
      only = λ z i. let r = flat_in each z p.all i in let s =
          map_in (join r.0) z (q r.0).all r.2 in (r.0, s.0, p.only r.0 r.1, (q r.0).only s.0 s.1, s.2);
    }

abbrev picked : {A : Type 0} → (A → Bool) → List A → List A
picked t [] = []
picked t (x ∷ xs) = cond (t x) (x ∷ picked t xs) (picked t xs)

keep_in : {A : Type 0} (b : Bool) (x z : A) (xs : List A) → IsIn x xs → IsIn x (cond b (z ∷ xs) xs)
keep_in true x z xs h = inr h
keep_in false x z xs h = h

in_picked : {A : Type 0} (t : A → Bool) (x : A) (xs : List A) → IsIn x xs → t x ≡ true → IsIn x (picked t xs)
in_picked t x [] h k = absurd h
in_picked t x (z ∷ xs) (inl e) k = let b : t z ≡ true = ap t (sym e)
    ∙ k in subst (λ c. IsIn x (cond c (z ∷ picked t xs) (picked t xs))) (sym b) (inl e)
in_picked t x (z ∷ xs) (inr h) k = keep_in (t z) x z (picked t xs) (in_picked t x xs h k)

kept : {A : Type 0} (b : Bool) (x z : A) (xs : List A) → IsIn x (cond b (z ∷ xs) xs)
    → ((b ≡ true) × (x ≡ z)) ⊎ IsIn x xs
kept true x z xs (inl e) = inl (refl, e)
kept true x z xs (inr h) = inr h
kept false x z xs h = inr h

picked_in : {A : Type 0} (t : A → Bool) (x : A) (xs : List A) → IsIn x (picked t xs)
    → IsIn x xs × (t x ≡ true)
picked_in t x [] h = absurd h
picked_in t x (z ∷ xs) h = elim (kept (t z) x z (picked t xs) h) [
  | inl now ↦ (inl now.1, ap t now.1 ∙ now.0)
  | inr later ↦ let r = picked_in t x xs later in (inr r.0, r.1)
]

pub listed_where : {A : Type 0} (t : A → Bool) (P : A → Type 0) → Listed P → Listed (λ x. P x × (t x ≡ true))
listed_where t P p = record {
  all = picked t p.all;
  here = λ x h. in_picked t x p.all (p.here x h.0) h.1;
  only = λ x i. let r = picked_in t x p.all i in (p.only x r.0, r.1);
}

-- whether a number is in a list
abbrev pub has_number : ℕ → List ℕ → Bool
has_number a [] = false
has_number a (b ∷ bs) = a == b || has_number a bs

or_true : (x y : Bool) → (x ≡ true) ⊎ (y ≡ true) → (x || y) ≡ true
or_true true y h = refl
or_true false y (inl e) = absurd (cc e)
or_true false y (inr e) = e

pub has_in : (a : ℕ) (bs : List ℕ) → has_number a bs ≡ true → IsIn a bs
has_in a [] h = cc h
has_in a (b ∷ bs) h = elim (or_cases (a == b) (has_number a bs) h) [
  | inl e ↦ inl (eqb-true a b e)
  | inr k ↦
      inr (has_in a bs k)
]

pub in_has : (a : ℕ) (bs : List ℕ) → IsIn a bs → has_number a bs ≡ true
in_has a [] h = absurd h
in_has a (b ∷ bs) (inl e) = or_true (a == b) (has_number a bs) (inl (eq-eqb a b e))
in_has a (b ∷ bs) (inr h) = or_true (a == b) (has_number a bs) (inr (in_has a bs h))

-- ---- in order

abbrev Ordered : {A : Type 0} → (A → A → Ordering) → (A → Type 0) → Type 0
Ordered {A} cmp P = (xs : List A) × IsStrictlySortedBy cmp xs × ((x : A) → IsIn x xs ↔ P x)

All_in : {A : Type 0} (P : A → Type 0) (xs : List A) → ((x : A) → IsIn x xs → P x) → AllByRecursion P xs
All_in P [] h = tt
All_in P (x ∷ xs) h = (h x (inl refl), All_in P xs (λ y i. h y (inr i)))

insert : {A : Type 0} (cmp : A → A → Ordering) → IsOrder cmp → (a : A) (xs : List A)
    → IsStrictlySortedBy cmp xs → Ordered cmp (λ x. IsIn x (a ∷ xs))
unfolding IsStrictlySortedBy
insert cmp o a [] h = (a ∷ [], (tt, tt), λ x. ((λ i. i), λ i. i))
insert cmp o a (y ∷ ys) h = elim (apart cmp o a y) [
  | inl less ↦ (
    a ∷ y ∷ ys,
    (
      (
        less,
        All_in (λ z. cmp a z ≡ Less) ys
            (λ z i. o.total.trans a y z less (All_at (λ w. cmp y w ≡ Less) z ys h.0 i)),
      ),
      h,
    ),
    λ x.
        ((λ i. i), λ i. i),
  )
  | inr (inl same) ↦ (y ∷ ys, h, λ x. ((λ i. inr i), λ i. elim i [ inl e ↦ inl (e ∙ same) | inr j ↦ j ]))
  | inr (inr more) ↦
      let r = insert cmp o a ys h.1 in (
        y ∷ r.0,
        (
          All_in (λ z. cmp y z ≡ Less) r.0
              (λ z i. elim ((r.2 z).0 i) [
                | inl e ↦ subst (λ w. cmp y w ≡ Less) (sym e) more
                | inr j ↦
                    All_at (λ w. cmp y w ≡ Less) z ys h.0 j
              ]),
          r.1,
        ),
        λ x. (
          (λ i. elim i [
            | inl e ↦ inr (inl e)
            | inr j ↦
                elim ((r.2 x).0 j) [ inl f ↦ inl f | inr k ↦ inr (inr k) ]
          ]),
          λ i. elim i [
            | inl f ↦ inr ((r.2 x).1 (inl f))
            | inr j ↦
                elim j [ inl e ↦ inl e | inr k ↦ inr ((r.2 x).1 (inr k)) ]
          ],
        ),
      )
]

sorted : {A : Type 0} (cmp : A → A → Ordering) → IsOrder cmp → (xs : List A) → Ordered cmp (λ x. IsIn x xs)
unfolding IsStrictlySortedBy
sorted cmp o [] = ([], tt, λ x. ((λ i. i), λ i. i))
sorted cmp o (a ∷ xs) =
    let r = sorted cmp o xs in
    let s = insert cmp o a r.0 r.1 in (
      s.0,
      s.1,
      λ x. (
        (λ i. elim ((s.2 x).0 i) [ inl e ↦ inl e | inr j ↦ inr ((r.2 x).0 j) ]),
        λ i. (s.2 x).1 (elim i [ inl e ↦ inl e | inr j ↦ inr ((r.2 x).1 j) ]),
      ),
    )

pub ordered : {A : Type 0} {cmp : A → A → Ordering} → IsOrder cmp → (P : A → Type 0) → Listed P
    → (xs : List A) × IsStrictlySortedBy cmp xs × ((x : A) → P x → IsIn x xs) × ((x : A) → IsIn x xs → P x)
ordered {A} {cmp} o P l = let r = sorted cmp o l.all in
    (r.0, r.1, (λ x p. (r.2 x).1 (l.here x p)), λ x i. l.only x ((r.2 x).0 i))
