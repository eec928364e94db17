-- What stands inside bytes is no longer than they are.
use Rattle.std.proofs.Common.{◌≡◌, ℕ, zero, suc, ◌-◌, ◌≤◌, List, [], ◌∷◌, length, take, Some, None, Result}
use Rattle.std.proofs.Common.{Ok, Err, refl, ap, arith}
use Rattle.std.specs.List.{AllByRecursion}
use Rattle.std.proofs.lemmas.List.{length-append}
use Rattle.cbor_validity.specs.declared.head.Fault.{Fault}
use Rattle.cbor_validity.specs.declared.head.TheConstants.{MAX_DEPTH}
use Rattle.cbor_validity.specs.declared.head.Head.{Head}
use Rattle.cbor_validity.specs.declared.head.Head.TheVariants as head
use Rattle.cbor_validity.specs.Head.{head_at}
use Rattle.cbor_validity.specs.Item.{item_at}
use Rattle.cbor_core.specs.Views.{on_ok, before, cut, items_in, pair_up, map_by, pairs_of, entries_of}
use Rattle.cbor_core.specs.Views.{text_by, text_of}
use Rattle.cbor_validity.proofs.Fronts.{head_front}
use Rattle.cbor_validity.proofs.Cutting.{first_shorter}

taken : (n : ℕ) (bytes : List ℕ) → length (take n bytes) ≤ length bytes
taken zero bytes = omega arith
taken (suc n) [] = omega arith
taken (suc n) (b ∷ bytes) = omega (arith, taken n bytes)

cut_at : (most turns : ℕ) (bytes : List ℕ) (r : Result (List ℕ) Fault) → length bytes ≤ most
    → item_at MAX_DEPTH bytes ≡ r
    → ((rest : List ℕ) → length rest ≤ most
    → AllByRecursion (λ x. length x ≤ most) (cut (item_at MAX_DEPTH) turns rest))
    → AllByRecursion (λ x. length x ≤ most)
    (on_ok r (λ rest. before rest bytes ∷ cut (item_at MAX_DEPTH) turns rest) [])
cut_at most turns bytes (Ok rest) le e later =
    let less = first_shorter MAX_DEPTH bytes rest e in
    (omega (arith, taken (length bytes - length rest) bytes, le), later rest (omega (arith, less, le)))
cut_at most turns bytes (Err f) le e later = tt

cut_short : (most turns : ℕ) (bytes : List ℕ) → length bytes ≤ most
    → AllByRecursion (λ x. length x ≤ most) (cut (item_at MAX_DEPTH) turns bytes)
unfolding cut
cut_short most turns [] le = tt
cut_short most zero (b ∷ bytes) le = tt
cut_short most (suc turns) (b ∷ bytes) le =
    cut_at most turns (b ∷ bytes) (item_at MAX_DEPTH (b ∷ bytes)) le refl (cut_short most turns)

pairs_short : (most : ℕ) (xs : List (List ℕ)) → AllByRecursion (λ x. length x ≤ most) xs
    → AllByRecursion (λ p. (length p.0 ≤ most) × (length p.1 ≤ most)) (pair_up xs)
pairs_short most [] all = tt
pairs_short most (k ∷ []) all = tt
pairs_short most (k ∷ v ∷ xs) all = ((all.0, all.1.0), pairs_short most xs all.1.1)

back_short : (bytes : List ℕ) (h : Head) (back : List ℕ) → head_at bytes ≡ Ok (h, back)
    → length back ≤ length bytes
back_short bytes h back e = let f =
    head_front bytes h back e in omega (arith, ap length f.parts, length-append f.others back)

map_short : (h : Head) (back : List ℕ) → length (map_by h back) ≤ length back
map_short (head.Map (Some n)) back = omega arith
map_short (head.Map None) back = taken (length back - 1) back
map_short (head.Unsigned n) back = omega arith
map_short (head.Negative n) back = omega arith
map_short (head.Bytes n) back = omega arith
map_short (head.Text n) back = omega arith
map_short (head.List n) back = omega arith
map_short (head.Tag n) back = omega arith
map_short (head.Simple n) back = omega arith
map_short head.Float back = omega arith
map_short head.Break back = omega arith

inside_at : (bytes : List ℕ) (r : Result (Head × List ℕ) Fault) → head_at bytes ≡ r
    → length (on_ok r (λ h. map_by h.0 h.1) []) ≤ length bytes
inside_at bytes (Ok h) e = omega (arith, map_short h.0 h.1, back_short bytes h.0 h.1 e)
inside_at bytes (Err f) e = omega arith

pub entries_short : (most : ℕ) (bytes : List ℕ) → length bytes ≤ most
    → AllByRecursion (λ p. (length p.0 ≤ most) × (length p.1 ≤ most)) (entries_of bytes)
unfolding pairs_of items_in
entries_short most bytes le =
    pairs_short most (items_in (pairs_of bytes))
    (cut_short most (length (pairs_of bytes)) (pairs_of bytes)
    (omega (arith, inside_at bytes (head_at bytes) refl, le)))

text_at : (bytes text : List ℕ) (r : Result (Head × List ℕ) Fault) → head_at bytes ≡ r
    → on_ok r (λ h. text_by h.0 h.1) None ≡ Some text → length text ≤ length bytes
text_at bytes text (Err f) e is = absurd cc
text_at bytes text (Ok (head.Text n, back)) e is = let same : back ≡ text =
    cc in omega (arith, back_short bytes (head.Text n) back e, ap length same)
text_at bytes text (Ok (head.Unsigned n, back)) e is = absurd cc
text_at bytes text (Ok (head.Negative n, back)) e is = absurd cc
text_at bytes text (Ok (head.Bytes n, back)) e is = absurd cc
text_at bytes text (Ok (head.List n, back)) e is = absurd cc
text_at bytes text (Ok (head.Map n, back)) e is = absurd cc
text_at bytes text (Ok (head.Tag n, back)) e is = absurd cc
text_at bytes text (Ok (head.Simple n, back)) e is = absurd cc
text_at bytes text (Ok (head.Float, back)) e is = absurd cc
text_at bytes text (Ok (head.Break, back)) e is = absurd cc

pub text_short : (bytes text : List ℕ) → text_of bytes ≡ Some text → length text ≤ length bytes
unfolding text_of
text_short bytes text e = text_at bytes text (head_at bytes) refl e
