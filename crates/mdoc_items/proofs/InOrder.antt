-- Named trees in the order of their names.
use Rattle.std.proofs.Common.{◌≡◌, Bool, true, false, List, [], ◌∷◌, Ordering, Less}
use Rattle.std.proofs.Common.{Equal, Greater, nat_cmp, refl, sym, ap, ◌∙◌, IsPermutation}
use Rattle.std.proofs.Common.{inl, inr}
use Rattle.std.specs.Prelude.{if◌then◌else◌}
use Rattle.std.specs.Ordering.{is_lt, is_gt, match_ordering, ordering_reverse}
use Rattle.std.specs.Cmp.{IsTotalOrder}
use Rattle.std.specs.Cmp.Lexicographic.{slice_cmp}
use Rattle.std.specs.List.{AllByRecursion}
use Rattle.std.proofs.lemmas.Bool.{and_parts, cases_Bool}
use Rattle.std.proofs.lemmas.Cmp.{nat_list_cmp_total, upto}
use Rattle.std.proofs.lemmas.List.Sorted.{IsPermutation-refl, IsPermutation-sym, IsPermutation-trans}
use Rattle.std.proofs.lemmas.List.Sorted.{IsPermutation-append_left, IsPermutation-append_right}
use Rattle.std.proofs.lemmas.List.Sorted.{IsPermutation-append_comm}
use Rattle.claim_tree.specs.Tree.{Other, RecordOf}
use Rattle.claim_tree.specs.Parts.{members_of}
use Rattle.claim_tree.proofs.Ascending.{is_less}
use Rattle.mdoc_items.specs.Value.{Valued, placed, in_order, rise, marked, record_of}
use Rattle.mdoc_items.specs.code.Sorted.{AreSorted}
use Rattle.mdoc_items.proofs.SortedOnce.{IsAscending, AtMost, same_order, ascending_from_sorted, all_weaker}

abbrev pub by_name : Valued → Valued → Ordering
by_name a b = slice_cmp nat_cmp a.0 b.0

pub total : IsTotalOrder by_name
total = record {
  antisymm = λ a b. nat_list_cmp_total.antisymm a.0 b.0;
  trans = λ a b c. nat_list_cmp_total.trans a.0 b.0 c.0;
  congr = λ a b c. nat_list_cmp_total.congr a.0 b.0 c.0;
}

abbrev pub Up : List Valued → Type 0
Up = IsAscending (AtMost by_name total)

-- ---- what is placed

place_at : (m l : Valued) (ls : List Valued) (o : Ordering) → IsPermutation (m ∷ ls) (placed m ls)
    → IsPermutation (m ∷ l ∷ ls) (match_ordering o (m ∷ l ∷ ls) (m ∷ l ∷ ls) (l ∷ placed m ls))
place_at m l ls Less h = IsPermutation-refl (m ∷ l ∷ ls)
place_at m l ls Equal h = IsPermutation-refl (m ∷ l ∷ ls)
place_at m l ls Greater h =
    IsPermutation-trans (m ∷ l ∷ ls) (l ∷ m ∷ ls) (l ∷ placed m ls)
    (IsPermutation-append_left ls (m ∷ l ∷ []) (l ∷ m ∷ []) (IsPermutation-append_comm (m ∷ []) (l ∷ [])))
    (IsPermutation-append_right (l ∷ []) (m ∷ ls) (placed m ls) h)

place_same : (m : Valued) (ls : List Valued) → IsPermutation (m ∷ ls) (placed m ls)
place_same m [] = IsPermutation-refl (m ∷ [])
place_same m (l ∷ ls) = place_at m l ls (by_name m l) (place_same m ls)

pub in_order_same : (ms : List Valued) → IsPermutation ms (in_order ms)
in_order_same [] = IsPermutation-refl []
in_order_same (m ∷ ms) =
    IsPermutation-trans (m ∷ ms) (m ∷ in_order ms) (in_order (m ∷ ms))
    (IsPermutation-append_right (m ∷ []) ms (in_order ms) (in_order_same ms))
    (place_same m (in_order ms))

-- ---- it ascends

all_placed_at : (P : Valued → Type 0) (m l : Valued) (ls : List Valued) (o : Ordering) → P m → P l
    → AllByRecursion P ls → AllByRecursion P (placed m ls)
    → AllByRecursion P (match_ordering o (m ∷ l ∷ ls) (m ∷ l ∷ ls) (l ∷ placed m ls))
all_placed_at P m l ls Less pm pl all later = (pm, (pl, all))
all_placed_at P m l ls Equal pm pl all later = (pm, (pl, all))
all_placed_at P m l ls Greater pm pl all later = (pl, later)

all_placed : (P : Valued → Type 0) (m : Valued) (ls : List Valued) → P m → AllByRecursion P ls
    → AllByRecursion P (placed m ls)
all_placed P m [] pm all = (pm, tt)
all_placed P m (l ∷ ls) pm all =
    all_placed_at P m l ls (by_name m l) pm all.0 all.1 (all_placed P m ls pm all.1)

up_placed_at : (m l : Valued) (ls : List Valued) (o : Ordering) → by_name m l ≡ o
    → AllByRecursion (AtMost by_name total l) ls → Up ls → Up (placed m ls)
    → Up (match_ordering o (m ∷ l ∷ ls) (m ∷ l ∷ ls) (l ∷ placed m ls))
up_placed_at m l ls Less e first up later =
    let at_most : AtMost by_name total m l = ap is_gt e in (
      (
        at_most,
        all_weaker (AtMost by_name total l) (AtMost by_name total m)
            (λ z. upto total m l z at_most) ls first,
      ),
      (first, up),
    )
up_placed_at m l ls Equal e first up later =
    let at_most : AtMost by_name total m l = ap is_gt e in (
      (
        at_most,
        all_weaker (AtMost by_name total l) (AtMost by_name total m)
            (λ z. upto total m l z at_most) ls first,
      ),
      (first, up),
    )
up_placed_at m l ls Greater e first up later =
    let at_most : AtMost by_name total l m = ap is_gt (total.antisymm l m ∙ ap ordering_reverse e) in
    (all_placed (AtMost by_name total l) m ls at_most first, later)

up_placed : (m : Valued) (ls : List Valued) → Up ls → Up (placed m ls)
up_placed m [] up = (tt, tt)
up_placed m (l ∷ ls) up = up_placed_at m l ls (by_name m l) refl up.0 up.1 (up_placed m ls up.1)

pub up_in_order : (ms : List Valued) → Up (in_order ms)
up_in_order [] = tt
up_in_order (m ∷ ms) = up_placed m (in_order ms) (up_in_order ms)

-- ---- names that rise

abbrev pub Strict : List Valued → Type 0
Strict = IsAscending (λ a b. by_name a b ≡ Less)

all_above : (l m : Valued) (ms : List Valued) → by_name l m ≡ Less
    → AllByRecursion (λ z. by_name m z ≡ Less) ms → AllByRecursion (λ z. by_name l z ≡ Less) ms
all_above l m [] e h = tt
all_above l m (z ∷ ms) e h = (total.trans l m z e h.0, all_above l m ms e h.1)

pub strict_from_rise : (ms : List Valued) → rise ms ≡ true → Strict ms
strict_from_rise [] h = tt
strict_from_rise (m ∷ []) h = (tt, tt)
strict_from_rise (l ∷ m ∷ ms) h =
    let both = and_parts (is_lt (by_name l m)) (rise (m ∷ ms)) h in
    let less : by_name l m ≡ Less = is_less (by_name l m) both.0 in
    let later = strict_from_rise (m ∷ ms) both.1 in
    ((less, all_above l m ms less later.0), later)

-- ---- what is sorted

-- members whose names rise are the others in order, if they are the same
pub in_order_is : (ms ls : List Valued) → IsPermutation ms ls → rise ls ≡ true → in_order ms ≡ ls
in_order_is ms ls same h =
    same_order by_name total ls (in_order ms) (strict_from_rise ls h)
    (IsPermutation-trans ls ms (in_order ms) (IsPermutation-sym ms ls same) (in_order_same ms))
    (up_in_order ms)

same_if_rise : (ms ls : List Valued) → AreSorted ms ls → rise (in_order ms) ≡ true → ls ≡ in_order ms
same_if_rise ms ls sorted h =
    same_order by_name total (in_order ms) ls (strict_from_rise (in_order ms) h)
    (IsPermutation-trans (in_order ms) ms ls
    (IsPermutation-sym ms (in_order ms) (in_order_same ms)) sorted.0)
    (ascending_from_sorted by_name total ls sorted.1)

pub record_in_order : (held : Bool) (ms ls : List Valued) → AreSorted ms ls → rise ls ≡ true
    → RecordOf (members_of (marked held ls)) ≡ record_of held ms
record_in_order held ms ls sorted h =
    let same = in_order_is ms ls sorted.0 h in
    sym (ap (λ (xs : List Valued). if rise xs then RecordOf (members_of (marked held xs)) else Other) same
    ∙ rw h refl)

pub no_record : (held : Bool) (ms ls : List Valued) → AreSorted ms ls → rise ls ≡ false
    → Other ≡ record_of held ms
no_record held ms ls sorted h =
    elim (cases_Bool (rise (in_order ms))) [
      | inl up ↦ absurd (let same = same_if_rise ms ls sorted up in let both : rise ls ≡ true = ap rise same
          ∙ up in let no : true ≡ false = sym both ∙ h in cc)
      | inr down ↦ sym (rw down refl)
    ]
