-- What a binary search among members finds, and what is at that place.
use Rattle.std.proofs.Common.{◌≡◌, ℕ, zero, suc, ◌+◌, ◌<◌, ◌≤◌, Bool, true, false, cond, List, [], ◌∷◌}
use Rattle.std.proofs.Common.{length, map, take, drop, get_or, Some, None, option_map, Result, Ok, Err}
use Rattle.std.proofs.Common.{Ordering, Less, Equal, Greater, nat_cmp, is_eq, string_bytes, refl, sym, ap}
use Rattle.std.proofs.Common.{◌∙◌, subst, arith}
use Rattle.std.specs.List.{list_all, slice_get}
use Rattle.std.specs.List.Sorted.{IsSortedBy, IsNonDecreasingBy, IsSearchInRange, IsBinarySearchResult}
use Rattle.std.specs.Ordering.{is_lt, ordering_reverse, ordering_index}
use Rattle.std.specs.Cmp.Lexicographic.{slice_cmp}
use Rattle.std.specs.Str.{bytes_eq}
use Rattle.std.proofs.lemmas.Bool.{and_parts, and_from}
use Rattle.std.proofs.lemmas.Cmp.{nat_list_cmp_total}
use Rattle.std.proofs.lemmas.List.Sorted.{searchable_from_sorted}
use Rattle.std.proofs.lemmas.Map.Text.{is_eq-slice_cmp}
use Rattle.std.proofs.lemmas.Option.{same_Some}
use Rattle.std.proofs.lemmas.Slice.Eq.{bytes_eq-Decides}
use Rattle.claim_tree.specs.Tree.{Name, Tree, member_at, ascend}
use Rattle.owned_tree.specs.Owned.{named_of}
use Rattle.claim_tree.specs.Parts.{Named, members_of}
use Rattle.claim_tree.specs.Ascending.{names_of, below}
use Rattle.owned_tree.specs.Search.{IsPlaceOf}
use Rattle.owned_tree.specs.declared.owned.OwnedMember.{OwnedMember}
use Rattle.claim_tree.proofs.Ascending.{is_less}

abbrev pub name_of : OwnedMember → Name
name_of m = string_bytes m.name

abbrev pub all_names : List OwnedMember → List Name
all_names ms = names_of (map named_of ms)

-- ---- a binary search

not_after : (k l : Name) → below k l ≡ true → is_lt (slice_cmp nat_cmp l k) ≡ false
not_after k l h =
    ap is_lt (nat_list_cmp_total.antisymm l k ∙ ap ordering_reverse (is_less (slice_cmp nat_cmp k l) h))

-- the name at a place is not before the one at the place before it
next : (ms : List OwnedMember) → ascend (all_names ms) ≡ true → (k : ℕ) (d : OwnedMember) → suc k < length ms
    → is_lt (slice_cmp nat_cmp (name_of (get_or ms (suc k) d)) (name_of (get_or ms k d))) ≡ false
next [] up k d within = absurd (omega arith)
next (m ∷ []) up k d within = absurd (omega arith)
next (m ∷ n ∷ ms) up zero d within =
    let first = (and_parts (list_all (below (name_of m)) (all_names (n ∷ ms)))
    (ascend (all_names (n ∷ ms))) up).0 in
    not_after (name_of m) (name_of n)
    (and_parts (below (name_of m) (name_of n)) (list_all (below (name_of m)) (all_names ms)) first).0
next (m ∷ n ∷ ms) up (suc k) d within =
    next (n ∷ ms) (and_parts (list_all (below (name_of m)) (all_names (n ∷ ms)))
    (ascend (all_names (n ∷ ms))) up).1 k d (omega arith)

in_order : (ms : List OwnedMember) → ascend (all_names ms) ≡ true
    → IsSortedBy (λ a b. is_lt (slice_cmp nat_cmp (name_of a) (name_of b))) ms
in_order ms up k d low high =
    let e : suc k ≡ k + 1 = omega arith in
    subst (λ i. is_lt (slice_cmp nat_cmp (name_of (get_or ms i d)) (name_of (get_or ms k d))) ≡ false) e
    (next ms up k d (omega arith))

rises : (name : Name) (ms : List OwnedMember) → ascend (all_names ms) ≡ true
    → IsNonDecreasingBy (λ m. ordering_index (slice_cmp nat_cmp (name_of m) name)) ms
rises name ms up = searchable_from_sorted nat_list_cmp_total name_of ms name (in_order ms up)

all_before : (p : Name → Bool) (ms : List OwnedMember) (i : ℕ) → i ≤ length ms
    → ((k : ℕ) (d : OwnedMember) → k < i → p (name_of (get_or ms k d)) ≡ true)
    → list_all p (take i (all_names ms)) ≡ true
all_before p ms zero within h = refl
all_before p [] (suc i) within h = refl
all_before p (m ∷ ms) (suc i) within h =
    and_from (p (name_of m)) (list_all p (take i (all_names ms))) (h 0 m (omega arith))
    (all_before p ms i (omega arith) (λ k d l. h (suc k) d (omega arith)))

all_from : (p : Name → Bool) (ms : List OwnedMember) (i : ℕ)
    → ((k : ℕ) (d : OwnedMember) → i ≤ k → k < length ms → p (name_of (get_or ms k d)) ≡ true)
    → list_all p (drop i (all_names ms)) ≡ true
all_from p [] zero h = refl
all_from p [] (suc i) h = refl
all_from p (m ∷ ms) zero h =
    and_from (p (name_of m)) (list_all p (all_names ms)) (h 0 m (omega arith) (omega arith))
    (all_from p ms zero (λ k d l w. h (suc k) d (omega arith) (omega arith)))
all_from p (m ∷ ms) (suc i) h = all_from p ms i (λ k d l w. h (suc k) d (omega arith) (omega arith))

length-names : (ms : List OwnedMember) → length (all_names ms) ≡ length ms
length-names [] = refl
length-names (m ∷ ms) = ap suc (length-names ms)

equal_names : (k l : Name) → slice_cmp nat_cmp k l ≡ Equal → k ≡ l
equal_names k l e = (bytes_eq-Decides k l).0 (sym (is_eq-slice_cmp k l) ∙ ap is_eq e)

same_names : (k l : Name) → k ≡ l → slice_cmp nat_cmp k l ≡ Equal
same_names k l e = is_equal (slice_cmp nat_cmp k l) (is_eq-slice_cmp k l ∙ (bytes_eq-Decides k l).1 e) where
  is_equal : (o : Ordering) → is_eq o ≡ true → o ≡ Equal
  is_equal Less h = cc
  is_equal Equal h = refl
  is_equal Greater h = cc

name_at : (ms : List OwnedMember) (i : ℕ) (name : Name) → i < length ms
    → ((d : OwnedMember) → name_of (get_or ms i d) ≡ name) → slice_get (all_names ms) i ≡ Some name
name_at [] i name within h = absurd (omega arith)
name_at (m ∷ ms) zero name within h = ap Some (h m)
name_at (m ∷ ms) (suc i) name within h = name_at ms i name (omega arith) h

-- a binary search ends at the name, or where it would go
pub searched : (name : Name) (ms : List OwnedMember) (r : Result ℕ ℕ) → ascend (all_names ms) ≡ true
    → IsSearchInRange r (length ms) → IsBinarySearchResult (λ m. slice_cmp nat_cmp (name_of m) name) ms r
    → IsPlaceOf name (all_names ms) r
searched name ms (Ok i) up within h =
    name_at ms i name within (λ d. equal_names (name_of (get_or ms i d)) name (h d))
searched name ms (Err i) up within h =
    let parted = h (rises name ms up) in (
      omega (arith, length-names ms),
      all_before (λ l. below l name) ms i within (λ k d l. ap is_lt (parted.0 k d (omega arith) l)),
      all_from (below name) ms i
          (λ k d l w. ap is_lt (nat_list_cmp_total.antisymm name (name_of (get_or ms k d))
          ∙ ap ordering_reverse (parted.1 k d l w))),
    )

-- ---- what is at a place

after_it : (k l : Name) → below l k ≡ true → slice_cmp nat_cmp k l ≡ Greater
after_it k l h = nat_list_cmp_total.antisymm k l ∙ ap ordering_reverse (is_less (slice_cmp nat_cmp l k) h)

one_of : (p : Name → Bool) (ks : List Name) (i : ℕ) (k : Name) → list_all p ks ≡ true
    → slice_get ks i ≡ Some k → p k ≡ true
one_of p [] i k h at = cc
one_of p (l ∷ ks) zero k h at = sym (ap p (same_Some l k at)) ∙ (and_parts (p l) (list_all p ks) h).0
one_of p (l ∷ ks) (suc i) k h at = one_of p ks i k (and_parts (p l) (list_all p ks) h).1 at

tested : (o : Ordering) (k l : Name) → slice_cmp nat_cmp k l ≡ o → bytes_eq k l ≡ is_eq o
tested o k l e = sym (is_eq-slice_cmp k l) ∙ ap is_eq e

passed : (k l : Name) (ls : List Named) (m : Bool) (t : Tree) → bytes_eq k l ≡ false
    → member_at k (members_of ((l, m, t) ∷ ls)) ≡ member_at k (members_of ls)
passed k l ls m t e = ap (λ b. cond b (Some t) (member_at k (members_of ls))) e

-- the member of a name is at its place
pub member_at-found : (k : Name) (ls : List Named) (i : ℕ) → ascend (names_of ls) ≡ true
    → slice_get (names_of ls) i ≡ Some k
    → member_at k (members_of ls) ≡ option_map (λ l. l.2) (slice_get ls i)
member_at-found k [] i up at = cc
member_at-found k (l ∷ ls) zero up at =
    ap (λ b. cond b (Some l.2) (member_at k (members_of ls)))
    (tested Equal k l.0 (same_names k l.0 (sym (same_Some l.0 k at))))
member_at-found k (l ∷ ls) (suc i) up at =
    let both = and_parts (list_all (below l.0) (names_of ls)) (ascend (names_of ls)) up in
    passed k l.0 ls l.1 l.2
    (tested Greater k l.0 (after_it k l.0 (one_of (below l.0) (names_of ls) i k both.0 at)))
    ∙ member_at-found k ls i both.1 at

-- and there is none where the name has no place
pub member_at-absent : (k : Name) (ls : List Named) (i : ℕ)
    → list_all (λ l. below l k) (take i (names_of ls)) ≡ true
    → list_all (below k) (drop i (names_of ls)) ≡ true → member_at k (members_of ls) ≡ None
member_at-absent k [] i before after = refl
member_at-absent k (l ∷ ls) zero before after =
    let both = and_parts (below k l.0) (list_all (below k) (names_of ls)) after in
    passed k l.0 ls l.1 l.2 (tested Less k l.0 (is_less (slice_cmp nat_cmp k l.0) both.0))
    ∙ member_at-absent k ls zero refl both.1
member_at-absent k (l ∷ ls) (suc i) before after =
    let both = and_parts (below l.0 k) (list_all (λ x. below x k) (take i (names_of ls))) before in
    passed k l.0 ls l.1 l.2 (tested Greater k l.0 (after_it k l.0 both.0))
    ∙ member_at-absent k ls i both.1 after
