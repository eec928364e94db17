-- A test of an item and of each item inside it.
use Rattle.std.proofs.Common.{◌≡◌, ℕ, zero, suc, ◌-◌, ◌<◌, ◌&&◌, Bool, true, false, List, [], ◌∷◌, length}
use Rattle.std.proofs.Common.{Option, Some, None, Ok, ◌⊎◌, inl, inr, refl, sym, ap, ap₂, ◌∙◌, arith}
use Rattle.std.proofs.lemmas.Bool.{and_parts}
use Rattle.std.specs.List.{list_all}
use Rattle.std.proofs.lemmas.List.{take_all}
use Rattle.std.specs.Str.{is_utf8}
use Rattle.cbor_validity.specs.Parts.{before, cut, items_in, inside_by, inside_of, map_by, pairs_of, pair_up}
use Rattle.cbor_validity.specs.Parts.{text_by, text_of}
use Rattle.cbor_validity.specs.Keys.{keys_differ, keys_in}
use Rattle.cbor_validity.specs.declared.head.Head.{Head}
use Rattle.cbor_validity.specs.declared.head.Head.TheVariants as head
use Rattle.cbor_validity.specs.Head.{head_at}
use Rattle.cbor_validity.specs.Fine.{each_inside, each_below, is_fine_text, is_fine_map, is_fine_item}

pub each_fails : (test : List ℕ → Bool) (depth : ℕ) (bytes : List ℕ) → test bytes ≡ false
    → each_inside test depth bytes ≡ false
unfolding each_inside
each_fails test zero bytes e = e
each_fails test (suc depth) bytes e = rw e refl

pub each_flat : (test : List ℕ → Bool) (depth : ℕ) (bytes : List ℕ) → depth ≡ 0 → test bytes ≡ true
    → each_inside test depth bytes ≡ true
unfolding each_inside
each_flat test depth bytes z e = rw (z, e) refl

pub each_deep : (test : List ℕ → Bool) (depth : ℕ) (bytes : List ℕ) → 0 < depth → test bytes ≡ true
    → each_inside test depth bytes ≡ list_all (each_inside test (depth - 1)) (items_in (inside_of bytes))
unfolding each_inside
each_deep test zero bytes lt e = absurd (omega arith)
each_deep test (suc depth) bytes lt e = let d : suc depth - 1 ≡ depth = omega arith in rw (e, d) refl

-- ---- two tests at once

and_swap : (a b c d : Bool) → ((a && b) && (c && d)) ≡ ((a && c) && (b && d))
and_swap false b c d = refl
and_swap true true c d = refl
and_swap true false true d = refl
and_swap true false false d = refl

all_both : (f g h : List ℕ → Bool) → ((x : List ℕ) → h x ≡ (f x && g x)) → (xs : List (List ℕ))
    → list_all h xs ≡ (list_all f xs && list_all g xs)
all_both f g h e [] = refl
all_both f g h e (x ∷ xs) = ap₂ (λ a b. a && b) (e x) (all_both f g h e xs)
    ∙ and_swap (f x) (g x) (list_all f xs) (list_all g xs)

each_both : (depth : ℕ) (bytes : List ℕ)
    → each_inside is_fine_item depth bytes ≡
    (each_inside is_fine_text depth bytes && each_inside is_fine_map depth bytes)
unfolding each_inside
each_both zero bytes = refl
each_both (suc depth) bytes =
    let parts = items_in (inside_of bytes) in
    let inner = all_both (each_inside is_fine_text depth) (each_inside is_fine_map depth)
    (each_inside is_fine_item depth) (each_both depth) parts in
    ap (λ b. is_fine_item bytes && b) inner
    ∙ and_swap (is_fine_text bytes) (is_fine_map bytes) (list_all (each_inside is_fine_text depth) parts)
    (list_all (each_inside is_fine_map depth) parts)

pub fine_texts : (depth : ℕ) (bytes : List ℕ) → each_inside is_fine_item depth bytes ≡ true
    → each_inside is_fine_text depth bytes ≡ true
fine_texts depth bytes e = (and_parts _ _ (sym (each_both depth bytes) ∙ e)).0

pub fine_maps : (depth : ℕ) (bytes : List ℕ) → each_inside is_fine_item depth bytes ≡ true
    → each_inside is_fine_map depth bytes ≡ true
fine_maps depth bytes e = (and_parts _ _ (sym (each_both depth bytes) ∙ e)).1

pub wrong_maps : (depth : ℕ) (bytes : List ℕ) → each_inside is_fine_item depth bytes ≡ false
    → each_inside is_fine_text depth bytes ≡ true → each_inside is_fine_map depth bytes ≡ false
wrong_maps depth bytes e texts = ap (λ b. b && each_inside is_fine_map depth bytes) (sym texts)
    ∙ sym (each_both depth bytes) ∙ e

-- ---- the test of fine items, by their heads

pub and_truth : (b : Bool) → (b && true) ≡ b
and_truth true = refl
and_truth false = refl

and_turned : (a b : Bool) → (a && b) ≡ (b && a)
and_turned true true = refl
and_turned true false = refl
and_turned false true = refl
and_turned false false = refl

all_true : (xs : List (List ℕ)) → list_all (λ x. true) xs ≡ true
all_true [] = refl
all_true (x ∷ xs) = all_true xs

each_split : (test : List ℕ → Bool) (depth : ℕ) (bytes : List ℕ)
    → each_inside test depth bytes ≡
    (test bytes && list_all (each_below test depth) (items_in (inside_of bytes)))
unfolding each_inside
each_split test zero bytes = rw (all_true (items_in (inside_of bytes))) (sym (and_truth (test bytes)))
each_split test (suc depth) bytes = refl

all_nothing : (test : List ℕ → Bool) → list_all test (items_in []) ≡ true
unfolding items_in cut
all_nothing test = refl

-- what is no map has no keys
no_keys : (bytes : List ℕ) → pairs_of bytes ≡ [] → is_fine_map bytes ≡ true
unfolding items_in cut
no_keys bytes e = rw e refl

-- an item with no items inside and no text
pub fine_flat : (depth : ℕ) (bytes : List ℕ) → text_of bytes ≡ None → inside_of bytes ≡ []
    → pairs_of bytes ≡ [] → each_inside is_fine_item depth bytes ≡ true
unfolding is_fine_text
fine_flat depth bytes t i p = each_split is_fine_item depth bytes
    ∙ rw (t, i, no_keys bytes p, all_nothing (each_below is_fine_item depth)) refl

pub fine_text : (depth : ℕ) (bytes text : List ℕ) → text_of bytes ≡ Some text → inside_of bytes ≡ []
    → pairs_of bytes ≡ [] → each_inside is_fine_item depth bytes ≡ is_utf8 text
unfolding is_fine_text
fine_text depth bytes text t i p =
    each_split is_fine_item depth bytes
    ∙ rw (t, i, no_keys bytes p, all_nothing (each_below is_fine_item depth))
    (and_truth (is_utf8 text && true) ∙ and_truth (is_utf8 text))

pub fine_list : (depth : ℕ) (bytes : List ℕ) → text_of bytes ≡ None → pairs_of bytes ≡ []
    → each_inside is_fine_item depth bytes ≡ list_all (each_below is_fine_item depth)
    (items_in (inside_of bytes))
unfolding is_fine_text
fine_list depth bytes t p = each_split is_fine_item depth bytes ∙ rw (t, no_keys bytes p) refl

pub fine_map : (depth : ℕ) (bytes : List ℕ) → text_of bytes ≡ None → pairs_of bytes ≡ inside_of bytes
    → each_inside is_fine_item depth bytes ≡
    (list_all (each_below is_fine_item depth) (items_in (inside_of bytes)) && keys_differ
    (keys_in (pair_up (items_in (inside_of bytes)))))
unfolding is_fine_text
fine_map depth bytes t p = each_split is_fine_item depth bytes
    ∙ rw (t, p) (and_turned (keys_differ (keys_in (pair_up (items_in (inside_of bytes)))))
    (list_all (each_below is_fine_item depth) (items_in (inside_of bytes))))

at_head : (bytes span back : List ℕ) (found said : Head) → span ≡ bytes → head_at span ≡ Ok (found, back)
    → found ≡ said → head_at bytes ≡ Ok (said, back)
at_head bytes span back found said s e f = ap head_at (sym s) ∙ e ∙ ap (λ (h : Head). Ok (h, back)) f

pub text_fine : (depth n : ℕ) (bytes span back : List ℕ) (found : Head) → span ≡ bytes
    → head_at span ≡ Ok (found, back) → found ≡ head.Text n
    → each_inside is_fine_item depth bytes ≡ is_utf8 back
unfolding text_of inside_of pairs_of
text_fine depth n bytes span back found s e f =
    let at = at_head bytes span back found (head.Text n) s e f in
    fine_text depth bytes back (rw at refl) (rw at refl) (rw at refl)

list_at : (depth : ℕ) (bytes span back : List ℕ) (found said : Head) → span ≡ bytes
    → head_at span ≡ Ok (found, back) → found ≡ said → text_by said back ≡ None → map_by said back ≡ []
    → each_inside is_fine_item depth bytes ≡ list_all (each_below is_fine_item depth)
    (items_in (inside_of bytes))
unfolding text_of pairs_of
list_at depth bytes span back found said s e f t p =
    let at = at_head bytes span back found said s e f in
    fine_list depth bytes (rw at t) (rw at p)

pub list_fine : (depth : ℕ) (bytes span back : List ℕ) (found : Head) → span ≡ bytes
    → head_at span ≡ Ok (found, back) → ((n : Option ℕ) × (found ≡ head.List n))
    ⊎ ((n : ℕ) × (found ≡ head.Tag n))
    → each_inside is_fine_item depth bytes ≡ list_all (each_below is_fine_item depth)
    (items_in (inside_of bytes))
list_fine depth bytes span back found s e f =
    elim f [
      | inl x ↦ list_at depth bytes span back found (head.List x.0) s e x.1 refl refl
      | inr x ↦ list_at depth bytes span back found (head.Tag x.0) s e x.1 refl refl
    ]

flat_at : (depth : ℕ) (bytes span back : List ℕ) (found said : Head) → span ≡ bytes
    → head_at span ≡ Ok (found, back) → found ≡ said → text_by said back ≡ None → inside_by said back ≡ []
    → map_by said back ≡ [] → each_inside is_fine_item depth bytes ≡ true
unfolding text_of inside_of pairs_of
flat_at depth bytes span back found said s e f t i p =
    let at = at_head bytes span back found said s e f in
    fine_flat depth bytes (rw at t) (rw at i) (rw at p)

pub flat_fine : (depth : ℕ) (bytes span back : List ℕ) (found : Head) → span ≡ bytes
    → head_at span ≡ Ok (found, back) → ((n : ℕ) × (found ≡ head.Unsigned n))
    ⊎ (((n : ℕ) × (found ≡ head.Negative n))
    ⊎ (((n : ℕ) × (found ≡ head.Bytes n))
    ⊎ (((n : ℕ) × (found ≡ head.Simple n)) ⊎ ((found ≡ head.Float) ⊎ (found ≡ head.Break)))))
    → each_inside is_fine_item depth bytes ≡ true
flat_fine depth bytes span back found s e f =
    elim f [
      | inl x ↦ flat_at depth bytes span back found (head.Unsigned x.0) s e x.1 refl refl refl
      | inr (inl x) ↦ flat_at depth bytes span back found (head.Negative x.0) s e x.1 refl refl refl
      | inr (inr (inl x)) ↦ flat_at depth bytes span back found (head.Bytes x.0) s e x.1 refl refl refl
      | inr (inr (inr (inl x))) ↦ flat_at depth bytes span back found (head.Simple x.0) s e x.1 refl refl refl
      | inr (inr (inr (inr (inl x)))) ↦ flat_at depth bytes span back found head.Float s e x refl refl refl
      | inr (inr (inr (inr (inr x)))) ↦ flat_at depth bytes span back found head.Break s e x refl refl refl
    ]

pub map_fine : (depth : ℕ) (bytes span back : List ℕ) (n : Option ℕ) (found : Head) → span ≡ bytes
    → head_at span ≡ Ok (found, back) → found ≡ head.Map n
    → each_inside is_fine_item depth bytes ≡
    (list_all (each_below is_fine_item depth) (items_in (inside_of bytes)) && keys_differ
    (keys_in (pair_up (items_in (inside_of bytes)))))
unfolding text_of inside_of pairs_of
map_fine depth bytes span back None found s e f =
    let at = at_head bytes span back found (head.Map None) s e f in
    fine_map depth bytes (rw at refl) (rw at refl)
map_fine depth bytes span back (Some n) found s e f =
    let at = at_head bytes span back found (head.Map (Some n)) s e f in
    fine_map depth bytes (rw at refl) (rw at refl)

-- an item with nothing behind it is all of the bytes
pub before_nothing : (rest bytes : List ℕ) → length rest ≡ 0 → before rest bytes ≡ bytes
before_nothing rest bytes e = take_all (length bytes - length rest) bytes (omega arith)
