-- The orders of picks, lists and answers are total, and equal only at equals.
use Rattle.std.proofs.Common.{◌≡◌, ℕ, ◌<◌, Bool, true, false, List, [], ◌∷◌, refl, sym, ap₂, ◌⊎◌, inl, inr}
use Rattle.std.specs.declared.cmp.Ordering.{Ordering}
use Rattle.std.specs.declared.cmp.Ordering.TheVariants.{Less, Equal, Greater}
use Rattle.std.specs.Ordering.{nat_cmp, on, ordering_then, ordering_reverse, MatchOrdering}
use Rattle.std.specs.Cmp.{IsTotalOrder}
use Rattle.std.specs.Cmp.Lexicographic.{slice_cmp}
use Rattle.std.proofs.lemmas.Cmp.{nat_cmp_total, on_total, then_total, lists_total, tied_itself, ranked}
use Rattle.dcql_answers.specs.declared.pick.Pick.{Pick}
use Rattle.dcql_answers.specs.Answer.{pick_cmp, picks_cmp, place_of, sets_cmp, answered, answer_cmp}

pub record IsOrder {A : Type 0} (cmp : A → A → Ordering) : Type 0 where
  pub total : IsTotalOrder cmp
  pub same : (x y : A) → cmp x y ≡ Equal → x ≡ y

pub split_then : (o s : Ordering) → ordering_then o s ≡ Less → (o ≡ Less) ⊎ ((o ≡ Equal) × (s ≡ Less))
split_then Less s h = inl refl
split_then Equal s h = inr (refl, h)
split_then Greater s h = absurd (cc h)

pub both_equal : (o s : Ordering) → ordering_then o s ≡ Equal → (o ≡ Equal) × (s ≡ Equal)
both_equal Less s h = absurd (cc h)
both_equal Equal s h = (refl, h)
both_equal Greater s h = absurd (cc h)

nat_equal : (x y : ℕ) → nat_cmp x y ≡ Equal → x ≡ y
nat_equal x y h = let r : MatchOrdering Equal (x < y) (x ≡ y) (y < x) = ranked x y Equal (sym h) in r

pub nat_order : IsOrder nat_cmp
nat_order = record { total = nat_cmp_total; same = nat_equal }

place_same : (b c : Bool) → nat_cmp (place_of b) (place_of c) ≡ Equal → b ≡ c
place_same true true h = refl
place_same true false h = absurd (cc h)
place_same false true h = absurd (cc h)
place_same false false h = refl

pub place_order : IsOrder (on place_of nat_cmp)
place_order = record { total = on_total place_of nat_cmp_total; same = place_same }

pick_same : (p r : Pick) → pick_cmp p r ≡ Equal → p ≡ r
pick_same p r h =
    let e = both_equal _ _ h in
    let make : ℕ → ℕ → Pick = λ c s. record { credential = c; set = s } in
    ap₂ make (nat_equal _ _ e.0) (nat_equal _ _ e.1)

pub pick_order : IsOrder pick_cmp
pick_order = record {
  total = then_total (on_total (λ (p : Pick). p.credential) nat_cmp_total)
      (on_total (λ (p : Pick). p.set) nat_cmp_total);
  same = pick_same;
}

lists_same : {A : Type 0} (cmp : A → A → Ordering) → ((x y : A) → cmp x y ≡ Equal → x ≡ y) → (xs ys : List A)
    → slice_cmp cmp xs ys ≡ Equal → xs ≡ ys
lists_same cmp same [] [] h = refl
lists_same cmp same [] (y ∷ ys) h = absurd (cc h)
lists_same cmp same (x ∷ xs) [] h = absurd (cc h)
lists_same cmp same (x ∷ xs) (y ∷ ys) h =
    let e = both_equal _ _ h in
    ap₂ (λ z zs. z ∷ zs) (same x y e.0) (lists_same cmp same xs ys e.1)

pub lists_order : {A : Type 0} {cmp : A → A → Ordering} → IsOrder cmp → IsOrder (slice_cmp cmp)
lists_order {A} {cmp} o = record { total = lists_total o.total; same = lists_same cmp o.same }

pub picks_order : IsOrder picks_cmp
picks_order = lists_order pick_order

pub all_picks_order : IsOrder (slice_cmp picks_cmp)
all_picks_order = lists_order picks_order

pub sets_order : IsOrder sets_cmp
sets_order = lists_order place_order

pub answer_order : IsOrder answer_cmp
answer_order = record {
  total = then_total (on_total answered sets_order.total) all_picks_order.total;
  same = λ a b h. all_picks_order.same a b (both_equal _ _ h).1;
}

-- ---- what follows from an order

reversed_less : (o s : Ordering) → o ≡ ordering_reverse s → o ≡ Less → s ≡ Greater
reversed_less o Less e h = absurd (cc (e, h))
reversed_less o Equal e h = absurd (cc (e, h))
reversed_less o Greater e h = refl

-- nothing lies below what lies below it
pub strict : {A : Type 0} {cmp : A → A → Ordering} → IsOrder cmp → (x y : A) → cmp x y ≡ Less → cmp y x ≡ Less
    → ⊥
strict {A} {cmp} o x y h k = let g = reversed_less (cmp x y) (cmp y x) (o.total.antisymm x y) h in cc (g, k)

pub itself : {A : Type 0} {cmp : A → A → Ordering} → IsOrder cmp → (x : A) → cmp x x ≡ Equal
itself o x = tied_itself o.total x

pub not_below_itself : {A : Type 0} {cmp : A → A → Ordering} → IsOrder cmp → (x : A) → cmp x x ≡ Less → ⊥
not_below_itself o x h = let e = itself o x in cc (e, h)

pub apart : {A : Type 0} (cmp : A → A → Ordering) → IsOrder cmp → (x y : A)
    → (cmp x y ≡ Less) ⊎ ((x ≡ y) ⊎ (cmp y x ≡ Less))
apart cmp o x y = by (cmp x y) (cmp y x) (o.total.antisymm y x) (o.same x y) where
  by : (r s : Ordering) → s ≡ ordering_reverse r → (r ≡ Equal → x ≡ y) → (r ≡ Less) ⊎ ((x ≡ y) ⊎ (s ≡ Less))
  by Less s e f = inl refl
  by Equal s e f = inr (inl (f refl))
  by Greater s e f = inr (inr e)
