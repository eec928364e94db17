-- Sorted keys have a doubled one exactly where two neighbours are the same.
use Rattle.std.proofs.Common.{◌≡◌, suc, ◌+◌, Bool, true, false, not, ◌||◌, List, []}
use Rattle.std.proofs.Common.{◌∷◌, map, Ordering, Less, Equal, Greater, IsPermutation, refl, sym, ap}
use Rattle.std.proofs.Common.{◌∙◌, subst, arith}
use Rattle.std.specs.List.{list_any, AllByRecursion, IsDistinct, slice_index_or}
use Rattle.std.specs.List.Sorted.{IsSorted, IsStrictlySortedBy}
use Rattle.std.specs.Cmp.{IsTotalOrder, both_ways, eq_by_cmp_equiv}
use Rattle.std.specs.Ordering.{is_lt, is_eq, eq_by_cmp, ordering_reverse}
use Rattle.std.proofs.lemmas.Bool.{and_parts, and_from}
use Rattle.std.proofs.lemmas.List.Sorted.{IsPermutation-sym}
use Rattle.std.proofs.lemmas.Map.Keys.{IsDistinct-from_sorted, IsDistinct-IsPermutation}
use Rattle.cbor_validity.specs.Keys.{KeyMeaning, same_key, keys_differ, neighbours_differ}

less_from : (a : Ordering) → is_lt (ordering_reverse a) ≡ false → is_eq a ≡ false → a ≡ Less
less_from Less p q = refl
less_from Equal p q = cc
less_from Greater p q = cc

is_not : (b : Bool) → not b ≡ true → b ≡ false
is_not true e = cc
is_not false e = refl

not_is : (b : Bool) → b ≡ false → not b ≡ true
not_is true e = cc
not_is false e = refl

or_false : (a b : Bool) → a ≡ false → b ≡ false → (a || b) ≡ false
or_false false b p q = q
or_false true b p q = cc

first_false : (a b : Bool) → (a || b) ≡ false → a ≡ false
first_false false b e = refl
first_false true b e = cc

second_false : (a b : Bool) → (a || b) ≡ false → b ≡ false
second_false false b e = e
second_false true b e = cc

module _ {K : Type 0} (R : K → K → Ordering) (o : IsTotalOrder R) (meaning : K → KeyMeaning)
    (same : (a b : K) → eq_by_cmp R a b ≡ same_key (meaning a) (meaning b)) where
  below_all : (x y : K) → R x y ≡ Less → (zs : List K) → AllByRecursion (λ z. R y z ≡ Less) zs
      → AllByRecursion (λ z. R x z ≡ Less) zs
  below_all x y less [] p = tt
  below_all x y less (z ∷ zs) p = (o.trans x y z less p.0, below_all x y less zs p.1)

  strict : (xs : List K) → IsSorted R xs → neighbours_differ (map meaning xs) ≡ true → IsStrictlySortedBy R xs
  unfolding IsStrictlySortedBy
  strict [] s n = tt
  strict (x ∷ []) s n = (tt, tt)
  strict (x ∷ y ∷ ys) s n =
      let both = and_parts (not (same_key (meaning x) (meaning y)))
      (neighbours_differ (map meaning (y ∷ ys))) n in
      let later : IsSorted R (y ∷ ys) = λ k d low lt.
      let e : suc k + 1 ≡ suc (k + 1) = omega arith in
      subst (λ n. is_lt (R (slice_index_or (x ∷ y ∷ ys) n d) (slice_index_or (y ∷ ys) k d)) ≡ false) e
      (s (suc k) d (omega arith) (omega arith)) in
      let rest = strict (y ∷ ys) later both.1 in
      let apart : is_eq (R x y) ≡ false = same x y ∙ is_not (same_key (meaning x) (meaning y)) both.0 in
      let up : is_lt (R y x) ≡ false = s 0 x (omega arith) (omega arith) in
      let less : R x y ≡ Less = less_from (R x y) (ap is_lt (sym (o.antisymm y x)) ∙ up) apart in
      ((less, below_all x y less ys rest.0), rest)

  none_same : (x : K) (ys : List K) → AllByRecursion (λ y. eq_by_cmp R x y ≡ false) ys
      → list_any (same_key (meaning x)) (map meaning ys) ≡ false
  none_same x [] p = refl
  none_same x (y ∷ ys) p =
      or_false (same_key (meaning x) (meaning y)) (list_any (same_key (meaning x)) (map meaning ys))
      (sym (same x y) ∙ p.0) (none_same x ys p.1)

  all_apart : (x : K) (ys : List K) → list_any (same_key (meaning x)) (map meaning ys) ≡ false
      → AllByRecursion (λ y. eq_by_cmp R x y ≡ false) ys
  all_apart x [] e = tt
  all_apart x (y ∷ ys) e =
      let f = first_false (same_key (meaning x) (meaning y))
      (list_any (same_key (meaning x)) (map meaning ys)) e in
      let g = second_false (same_key (meaning x) (meaning y))
      (list_any (same_key (meaning x)) (map meaning ys)) e in
      (same x y ∙ f, all_apart x ys g)

  differ_from : (xs : List K) → IsDistinct (eq_by_cmp R) xs → keys_differ (map meaning xs) ≡ true
  unfolding IsDistinct
  differ_from [] d = refl
  differ_from (x ∷ xs) d =
      and_from (not (list_any (same_key (meaning x)) (map meaning xs))) (keys_differ (map meaning xs))
      (not_is (list_any (same_key (meaning x)) (map meaning xs)) (none_same x xs d.0))
      (differ_from xs d.1)

  distinct_from : (xs : List K) → keys_differ (map meaning xs) ≡ true → IsDistinct (eq_by_cmp R) xs
  unfolding IsDistinct
  distinct_from [] e = tt
  distinct_from (x ∷ xs) e =
      let both = and_parts (not (list_any (same_key (meaning x)) (map meaning xs)))
      (keys_differ (map meaning xs)) e in (
        all_apart x xs (is_not (list_any (same_key (meaning x)) (map meaning xs)) both.0),
        distinct_from xs both.1,
      )

  apart_next : (xs : List K) → IsDistinct (eq_by_cmp R) xs → neighbours_differ (map meaning xs) ≡ true
  unfolding IsDistinct
  apart_next [] d = refl
  apart_next (x ∷ []) d = refl
  apart_next (x ∷ y ∷ ys) d =
      and_from (not (same_key (meaning x) (meaning y))) (neighbours_differ (map meaning (y ∷ ys)))
      (not_is (same_key (meaning x) (meaning y)) (sym (same x y) ∙ d.0.0)) (apart_next (y ∷ ys) d.1)

  pub neighbours_decide : (keys sorted : List K) → IsPermutation keys sorted → IsSorted R sorted
      → neighbours_differ (map meaning sorted) ≡ keys_differ (map meaning keys)
  neighbours_decide keys sorted moved s =
      let flips = (eq_by_cmp_equiv o).symm in
      both_ways (neighbours_differ (map meaning sorted)) (keys_differ (map meaning keys))
      (λ n. differ_from keys
      (IsDistinct-IsPermutation (eq_by_cmp R) flips sorted keys (IsPermutation-sym keys sorted moved)
      (IsDistinct-from_sorted R sorted (strict sorted s n))))
      (λ d. apart_next sorted
      (IsDistinct-IsPermutation (eq_by_cmp R) flips keys sorted moved (distinct_from keys d)))
