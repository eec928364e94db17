-- Pairs in the bytewise order of their keys.
use Rattle.std.proofs.Common.{◌≡◌, ℕ, false, List, [], ◌∷◌, ◌++◌, length, subst, Ordering, Less, Equal}
use Rattle.std.proofs.Common.{Greater, nat_cmp, refl, ap}
use Rattle.std.proofs.Common.{◌∙◌, IsPermutation}
use Rattle.std.specs.Ordering.{is_eq, match_ordering, ordering_reverse}
use Rattle.std.specs.Cmp.{IsTotalOrder}
use Rattle.std.specs.Cmp.Lexicographic.{slice_cmp}
use Rattle.std.specs.List.{AllByRecursion}
use Rattle.std.proofs.lemmas.Cmp.{nat_list_cmp_total}
use Rattle.std.proofs.lemmas.List.Sorted.{IsPermutation-refl, IsPermutation-sym, IsPermutation-trans}
use Rattle.std.proofs.lemmas.List.Sorted.{IsPermutation-append_left, IsPermutation-append_right}
use Rattle.std.proofs.lemmas.List.Sorted.{IsPermutation-append_comm, length_permutation}
use Rattle.cbor_core.specs.Order.{Pair, AreInOrder}
use Rattle.mdoc_items.proofs.SortedOnce.{IsAscending, sorted_unique}
use Rattle.mdoc_written.specs.Containers.{put_by_key, by_key, named, sorted_map_bytes}
use Rattle.mdoc_written.specs.Containers.{AllRelated, Differ as Apart}
use Rattle.cbor_core.specs.Writing.{head_bytes, pairs_bytes}

abbrev pub by_first : Pair → Pair → Ordering
by_first p q = slice_cmp nat_cmp p.0 q.0

first_total : IsTotalOrder by_first
first_total = record {
  antisymm = λ a b. nat_list_cmp_total.antisymm a.0 b.0;
  trans = λ a b c. nat_list_cmp_total.trans a.0 b.0 c.0;
  congr = λ a b c. nat_list_cmp_total.congr a.0 b.0 c.0;
}

-- ---- the same pairs

put_at : (p q : Pair) (qs : List Pair) (o : Ordering) → IsPermutation (p ∷ qs) (put_by_key p qs)
    → IsPermutation (p ∷ q ∷ qs) (match_ordering o (p ∷ q ∷ qs) (p ∷ q ∷ qs) (q ∷ put_by_key p qs))
put_at p q qs Less h = IsPermutation-refl (p ∷ q ∷ qs)
put_at p q qs Equal h = IsPermutation-refl (p ∷ q ∷ qs)
put_at p q qs Greater h =
    IsPermutation-trans (p ∷ q ∷ qs) (q ∷ p ∷ qs) (q ∷ put_by_key p qs)
    (IsPermutation-append_left qs (p ∷ q ∷ []) (q ∷ p ∷ []) (IsPermutation-append_comm (p ∷ []) (q ∷ [])))
    (IsPermutation-append_right (q ∷ []) (p ∷ qs) (put_by_key p qs) h)

put_same : (p : Pair) (ps : List Pair) → IsPermutation (p ∷ ps) (put_by_key p ps)
put_same p [] = IsPermutation-refl (p ∷ [])
put_same p (q ∷ qs) = put_at p q qs (by_first p q) (put_same p qs)

pub by_key_same : (ps : List Pair) → IsPermutation ps (by_key ps)
by_key_same [] = IsPermutation-refl []
by_key_same (p ∷ ps) =
    IsPermutation-trans (p ∷ ps) (p ∷ by_key ps) (by_key (p ∷ ps))
    (IsPermutation-append_right (p ∷ []) ps (by_key ps) (by_key_same ps)) (put_same p (by_key ps))

pub by_key_length : (ps : List Pair) → length (by_key ps) ≡ length ps
by_key_length ps = length_permutation ps (by_key ps) (by_key_same ps)

-- what holds of all pairs does so in their order
all_at : (P : Pair → Type 0) (p q : Pair) (qs : List Pair) (o : Ordering) → P p → AllByRecursion P (q ∷ qs)
    → AllByRecursion P (put_by_key p qs)
    → AllByRecursion P (match_ordering o (p ∷ q ∷ qs) (p ∷ q ∷ qs) (q ∷ put_by_key p qs))
all_at P p q qs Less here all later = (here, all)
all_at P p q qs Equal here all later = (here, all)
all_at P p q qs Greater here all later = (all.0, later)

all_put : (P : Pair → Type 0) (p : Pair) (ps : List Pair) → P p → AllByRecursion P ps
    → AllByRecursion P (put_by_key p ps)
all_put P p [] here all = (here, tt)
all_put P p (q ∷ qs) here all = all_at P p q qs (by_first p q) here all (all_put P p qs here all.1)

pub all_by_key : (P : Pair → Type 0) (ps : List Pair) → AllByRecursion P ps → AllByRecursion P (by_key ps)
all_by_key P [] all = tt
all_by_key P (p ∷ ps) all = all_put P p (by_key ps) all.0 (all_by_key P ps all.1)

-- ---- they ascend, where no two keys are equal

abbrev pub Differ : Pair → Pair → Type 0
Differ p q = by_first p q ≡ Equal → ⊥

abbrev pub Strict : List Pair → Type 0
Strict = IsAscending (λ p q. by_first p q ≡ Less)

below_later : (p q : Pair) (qs : List Pair) → by_first p q ≡ Less
    → AllByRecursion (λ z. by_first q z ≡ Less) qs → AllByRecursion (λ z. by_first p z ≡ Less) qs
below_later p q [] e all = tt
below_later p q (z ∷ qs) e all = (first_total.trans p q z e all.0, below_later p q qs e all.1)

strict_at : (p q : Pair) (qs : List Pair) (o : Ordering) → by_first p q ≡ o → Differ p q → Strict (q ∷ qs)
    → Strict (put_by_key p qs) → Strict (match_ordering o (p ∷ q ∷ qs) (p ∷ q ∷ qs) (q ∷ put_by_key p qs))
strict_at p q qs Less e apart up later = ((e, below_later p q qs e up.0), up)
strict_at p q qs Equal e apart up later = absurd (apart e)
strict_at p q qs Greater e apart up later =
    let less : by_first q p ≡ Less = first_total.antisymm q p ∙ ap ordering_reverse e in
    (all_put (λ z. by_first q z ≡ Less) p qs less up.0, later)

strict_put : (p : Pair) (ps : List Pair) → AllByRecursion (Differ p) ps → Strict ps → Strict (put_by_key p ps)
strict_put p [] apart up = (tt, tt)
strict_put p (q ∷ qs) apart up =
    strict_at p q qs (by_first p q) refl apart.0 up (strict_put p qs apart.1 up.1)

pub strict_by_key : (ps : List Pair) → IsAscending Differ ps → Strict (by_key ps)
strict_by_key [] apart = tt
strict_by_key (p ∷ ps) apart =
    strict_put p (by_key ps) (all_by_key (Differ p) ps apart.0) (strict_by_key ps apart.1)

-- The order of a writer of maps is that of the definition.
pub order_is : (ps order : List Pair) → IsAscending Differ ps → AreInOrder ps order → order ≡ by_key ps
order_is ps order apart in_order =
    sorted_unique by_first first_total (by_key ps) order (strict_by_key ps apart)
    (IsPermutation-trans (by_key ps) ps order (IsPermutation-sym ps (by_key ps) (by_key_same ps)) in_order.0)
    in_order.1

-- ---- pairs of fixed names

pub four_named : (k l m n : List ℕ) {a b c d e f g h : List ℕ} → a ≡ e → b ≡ f → c ≡ g → d ≡ h
    → named k a ∷ named l b ∷ named m c ∷ named n d ∷ [] ≡ named k e ∷ named l f ∷ named m g ∷ named n h ∷ []
four_named k l m n p q r s = rw (p, q, r, s) refl

-- ---- a map that a writer brought into order

pub map_of_order : (ps lent order : List Pair) (old new : List ℕ) → IsAscending Differ ps → lent ≡ ps → old
    ≡ []
    → AreInOrder lent order → new ≡ old ++ (head_bytes 5 (length lent) ++ pairs_bytes order)
    → new ≡ sorted_map_bytes ps
map_of_order ps lent order old new apart same empty in_order is =
    let sorted : order ≡ by_key ps =
    order_is ps order apart (subst (λ (xs : List Pair). AreInOrder xs order) same in_order) in
    rw (is, empty, same, sorted, by_key_length ps) refl

apart_from : (o : Ordering) → is_eq o ≡ false → o ≡ Equal → ⊥
apart_from Less h e = absurd cc
apart_from Equal h e = absurd cc
apart_from Greater h e = absurd cc

related_each : (p : Pair) (ps : List Pair) → AllByRecursion (Apart p) ps → AllByRecursion (Differ p) ps
related_each p [] all = tt
related_each p (q ∷ qs) all = (apart_from (by_first p q) all.0, related_each p qs all.1)

pub related : (ps : List Pair) → AllRelated Apart ps → IsAscending Differ ps
related [] all = tt
related (p ∷ ps) all = (related_each p ps all.0, related ps all.1)
