-- Digests and disclosures in order, as a stable sort puts them.
use Rattle.std.proofs.Common.{◌≡◌, ℕ, Bool, true, false, not, cond, List, [], ◌∷◌, Ordering, Less, Equal}
use Rattle.std.proofs.Common.{Greater}
use Rattle.std.proofs.Common.{nat_cmp, refl, sym, ap, ap₂, ◌∙◌, arith, inl, inr}
use Rattle.std.specs.Prelude.{nat_le, nat_lt, ◌==◌}
use Rattle.std.specs.Ordering.{match_ordering, ordering_reverse, is_lt}
use Rattle.std.specs.Cmp.Lexicographic.{slice_cmp}
use Rattle.std.proofs.lemmas.Bool.{cases_Bool}
use Rattle.std.proofs.lemmas.Bool.Decides.{nat_tests}
use Rattle.std.proofs.lemmas.Cmp.{nat_list_cmp_total}
use Rattle.base_forms.specs.Texts.{Utf8}
use Rattle.sdjwt_hiding.specs.Hiding.{insert, sorted, Numbered, add, by_number}
use Rattle.sdjwt_hiding.specs.Disclosing.{told, all_told}
use Rattle.sdjwt_hiding.specs.code.InOrder.{put_by, ordered_by, told_in_order}
use Rattle.sdjwt_hiding.proofs.InOrder.{ordered_map}

-- ---- digests

abbrev pub text_lt : Utf8 → Utf8 → Bool
text_lt x y = is_lt (slice_cmp nat_cmp x y)

insert_at : (o : Ordering) (x y : Utf8) (ys zs : List Utf8)
    → match_ordering o (x ∷ y ∷ zs) (x ∷ y ∷ zs) (y ∷ ys) ≡ cond (is_lt (ordering_reverse o)) (y ∷ ys) (x ∷ y
    ∷ zs)
insert_at Less x y ys zs = refl
insert_at Equal x y ys zs = refl
insert_at Greater x y ys zs = refl

insert_is : (x : Utf8) (ys : List Utf8) → insert x ys ≡ put_by text_lt x ys
insert_is x [] = refl
insert_is x (y ∷ ys) =
    insert_at (slice_cmp nat_cmp x y) x y (insert x ys) ys
    ∙ ap₂ (λ o l. cond (is_lt o) (y ∷ l) (x ∷ y ∷ ys)) (sym (nat_list_cmp_total.antisymm y x))
    (insert_is x ys)

pub sorted_texts : (xs : List Utf8) → sorted xs ≡ ordered_by text_lt xs
sorted_texts [] = refl
sorted_texts (x ∷ xs) = insert_is x (sorted xs) ∙ ap (put_by text_lt x) (sorted_texts xs)

-- ---- disclosures

abbrev pub number_lt : Numbered → Numbered → Bool
number_lt p q = is_lt (nat_cmp p.0 q.0)

less_at : (b : Bool) (i j : ℕ) → nat_lt i j ≡ b → is_lt (cond b Less (cond (i == j) Equal Greater)) ≡ b
less_at true i j e = refl
less_at false i j e = not_less (i == j) where
  not_less : (c : Bool) → is_lt (cond c Equal Greater) ≡ false
  not_less true = refl
  not_less false = refl

not_below : (i j : ℕ) (b : Bool) → nat_le i j ≡ b → nat_lt j i ≡ not b
not_below i j b e = elim (cases_Bool (nat_lt j i)) [
  | inl less ↦ grind (arith, nat_tests)
  | inr more ↦ grind (arith, nat_tests)
]

add_at : (b : Bool) (p q : Numbered) (qs rs : List Numbered) → nat_le p.0 q.0 ≡ b → rs ≡ put_by number_lt p qs
    → cond b (p ∷ q ∷ qs) (q ∷ rs) ≡ cond (is_lt (nat_cmp q.0 p.0)) (q ∷ put_by number_lt p qs) (p ∷ q ∷ qs)
add_at true p q qs rs e is = ap (λ c. cond c (q ∷ put_by number_lt p qs) (p ∷ q ∷ qs))
    (sym (less_at (nat_lt q.0 p.0) q.0 p.0 refl ∙ not_below p.0 q.0 true e))
add_at false p q qs rs e is = ap (λ l. q ∷ l) is
    ∙ ap (λ c. cond c (q ∷ put_by number_lt p qs) (p ∷ q ∷ qs))
    (sym (less_at (nat_lt q.0 p.0) q.0 p.0 refl ∙ not_below p.0 q.0 false e))

add_is : (p : Numbered) (qs : List Numbered) → add p qs ≡ put_by number_lt p qs
add_is p [] = refl
add_is p (q ∷ qs) = add_at (nat_le p.0 q.0) p q qs (add p qs) refl (add_is p qs)

numbered_order : (ps : List Numbered) → by_number ps ≡ ordered_by number_lt ps
numbered_order [] = refl
numbered_order (p ∷ ps) = add_is p (by_number ps) ∙ ap (put_by number_lt p) (numbered_order ps)

pub told_by_number : (ps : List Numbered) → told_in_order (all_told ps) ≡ all_told (by_number ps)
told_by_number ps = sym (ap all_told (numbered_order ps)
    ∙ ordered_map told (λ p q. is_lt (nat_cmp p.0 q.0)) ps)
