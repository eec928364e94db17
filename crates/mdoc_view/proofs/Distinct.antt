-- Members whose names differ: in any order, and once they are in order.
use Rattle.std.proofs.Common.{◌≡◌, Bool, true, false, not, ◌&&◌, ◌||◌, List, [], ◌∷◌, map, Ordering, Less}
use Rattle.std.proofs.Common.{Equal, Greater, refl, sym, ap, ap₂, ◌∙◌, IsPermutation}
use Rattle.std.specs.Prelude.{if◌then◌else◌}
use Rattle.std.specs.List.{AllByRecursion}
use Rattle.std.specs.Ordering.{is_lt, is_eq, is_gt}
use Rattle.std.specs.Str.{bytes_eq}
use Rattle.std.proofs.lemmas.Bool.{and_parts, and_from, or_parts, or_from}
use Rattle.std.proofs.lemmas.Map.Text.{is_eq-slice_cmp}
use Rattle.base_forms.specs.Texts.{Utf8, is_among, differ}
use Rattle.base_forms.proofs.Differing.{bytes_eq-flip}
use Rattle.claim_tree.specs.Tree.{Tree, Other, RecordOf}
use Rattle.claim_tree.specs.Parts.{members_of}
use Rattle.mdoc_items.specs.Value.{Valued, in_order, rise, marked, record_of}
use Rattle.mdoc_view.specs.Relation.{IsHeldRecord}
use Rattle.mdoc_items.proofs.SortedOnce.{along_permutation}
use Rattle.mdoc_items.proofs.InOrder.{by_name, Up, Strict, strict_from_rise, in_order_same, up_in_order}
use Rattle.mdoc_items.proofs.InOrder.{in_order_is}

abbrev pub names_in : List Valued → List Utf8
names_in ms = map (λ m. m.0) ms

-- ---- in any order

abbrev Alike : List Valued → List Valued → Type 0
Alike xs ys =
    (differ (names_in xs) ≡ differ (names_in ys))
    × ((x : Utf8) → is_among x (names_in xs) ≡ is_among x (names_in ys))

turn_differ : (a b c d : Bool) → (not (a || b) && (not c && d)) ≡ (not (a || c) && (not b && d))
turn_differ true b c d = refl
turn_differ false true true d = refl
turn_differ false true false d = refl
turn_differ false false true d = refl
turn_differ false false false d = refl

turn_among : (a b c : Bool) → (a || (b || c)) ≡ (b || (a || c))
turn_among true true c = refl
turn_among true false c = refl
turn_among false b c = refl

alike_skip : (m : Valued) (xs ys : List Valued) → Alike xs ys → Alike (m ∷ xs) (m ∷ ys)
alike_skip m xs ys h =
    (ap₂ (λ (a b : Bool). not a && b) (h.1 m.0) h.0, λ x. ap (λ b. bytes_eq m.0 x || b) (h.1 x))

alike_turn : (l m : Valued) (xs : List Valued) → Alike (l ∷ m ∷ xs) (m ∷ l ∷ xs)
alike_turn l m xs =
    let among_l = is_among l.0 (names_in xs) in
    let among_m = is_among m.0 (names_in xs) in (
      turn_differ (bytes_eq m.0 l.0) among_l among_m (differ (names_in xs))
          ∙ ap (λ a. not (a || among_m) && (not among_l && differ (names_in xs))) (bytes_eq-flip m.0 l.0),
      λ x. turn_among (bytes_eq l.0 x) (bytes_eq m.0 x) (is_among x (names_in xs)),
    )

pub differ_permutation : (xs ys : List Valued) → IsPermutation xs ys
    → differ (names_in xs) ≡ differ (names_in ys)
differ_permutation xs ys same =
    (along_permutation Alike (λ xs. (refl, λ x. refl)) alike_skip alike_turn
    (λ xs ys zs h k. (h.0 ∙ k.0, λ x. h.1 x ∙ k.1 x)) xs ys same).0

-- ---- in order

apart : (m l : Valued) → by_name m l ≡ Less → bytes_eq l.0 m.0 ≡ false
apart m l e = bytes_eq-flip l.0 m.0 ∙ sym (is_eq-slice_cmp m.0 l.0) ∙ ap is_eq e

not_among : (m : Valued) (ls : List Valued) → AllByRecursion (λ l. by_name m l ≡ Less) ls
    → is_among m.0 (names_in ls) ≡ false
not_among m [] h = refl
not_among m (l ∷ ls) h =
    or_from (bytes_eq l.0 m.0) (is_among m.0 (names_in ls)) (apart m l h.0) (not_among m ls h.1)

differ_strict : (ms : List Valued) → Strict ms → differ (names_in ms) ≡ true
differ_strict [] h = refl
differ_strict (m ∷ ms) h =
    and_from (not (is_among m.0 (names_in ms))) (differ (names_in ms)) (ap not (not_among m ms h.0))
    (differ_strict ms h.1)

not_true : (b : Bool) → not b ≡ true → b ≡ false
not_true true e = cc
not_true false e = refl

less_from : (o : Ordering) → is_gt o ≡ false → is_eq o ≡ false → is_lt o ≡ true
less_from Less g e = refl
less_from Equal g e = cc
less_from Greater g e = cc

rise_up : (ms : List Valued) → Up ms → differ (names_in ms) ≡ true → rise ms ≡ true
rise_up [] up d = refl
rise_up (m ∷ []) up d = refl
rise_up (l ∷ m ∷ ms) up d =
    let both = and_parts (not (is_among l.0 (names_in (m ∷ ms)))) (differ (names_in (m ∷ ms))) d in
    let others = or_parts (bytes_eq m.0 l.0) (is_among l.0 (names_in ms)) (not_true _ both.0) in
    let less = less_from (by_name l m) up.0.0 (is_eq-slice_cmp l.0 m.0 ∙ bytes_eq-flip l.0 m.0 ∙ others.0) in
    and_from (is_lt (by_name l m)) (rise (m ∷ ms)) less (rise_up (m ∷ ms) up.1 both.1)

-- ---- records

pub record_held : (ms : List Valued) → differ (names_in ms) ≡ true → IsHeldRecord ms (record_of true ms)
record_held ms d =
    let same = in_order_same ms in
    let up = rise_up (in_order ms) (up_in_order ms) (sym (differ_permutation ms (in_order ms) same) ∙ d) in
    (in_order ms, same, up, rw up refl)

pub held_record : (ms : List Valued) (t : Tree) → IsHeldRecord ms t
    → (record_of true ms ≡ t) × (differ (names_in ms) ≡ true)
held_record ms t h =
    let same = in_order_is ms h.0 h.1 h.2 in
    let up = h.2 in
    let whole : (if rise h.0 then RecordOf (members_of (marked true h.0)) else Other) ≡ RecordOf
    (members_of (marked true h.0)) = rw up refl in (
      ap (λ (xs : List Valued). if rise xs then RecordOf (members_of (marked true xs)) else Other) same
          ∙ whole ∙ sym h.3,
      differ_permutation ms h.0 h.1 ∙ differ_strict h.0 (strict_from_rise h.0 h.2),
    )
