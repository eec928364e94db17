-- The first line and the lines after it.
use Rattle.std.proofs.Common.{◌≡◌, ℕ, suc, ◌+◌, ◌<◌, ◌==◌, List, [], ◌∷◌, Bool, true, false, not, cond}
use Rattle.std.proofs.Common.{length, take, drop, refl, ap, ◌∙◌, arith}
use Rattle.std.specs.List.{onto_first, position_or_len, before_first, after_first}
use Rattle.base_forms.specs.Lines.{lines_of}

abbrev is_feed : ℕ → Bool
is_feed byte = byte == 10

-- by whether the first byte is a line feed
abbrev place_at : Bool → List ℕ → ℕ
place_at b xs = cond (not b) (1 + position_or_len is_feed xs) 0

abbrev lines_at : Bool → ℕ → List ℕ → List (List ℕ)
lines_at b x xs = cond b ([] ∷ lines_of xs) (onto_first x (lines_of xs))

cut_at : (x : ℕ) (xs : List ℕ) (b : Bool)
    → (position_or_len is_feed xs < length xs
    → lines_of xs ≡ before_first is_feed xs ∷ lines_of (after_first is_feed xs))
    → place_at b xs < suc (length xs)
    → lines_at b x xs ≡ take (place_at b xs) (x ∷ xs) ∷ lines_of (drop (place_at b xs + 1) (x ∷ xs))
cut_at x xs true later inside = refl
cut_at x xs false later inside =
    let n = position_or_len is_feed xs in
    let one : 1 + n ≡ suc n = omega arith in
    let two : suc n + 1 ≡ suc (n + 1) = omega arith in
    ap (onto_first x) (later (omega arith)) ∙ rw (one, two) refl

pub lines_of_cut : (xs : List ℕ) → position_or_len is_feed xs < length xs
    → lines_of xs ≡ before_first is_feed xs ∷ lines_of (after_first is_feed xs)
lines_of_cut [] inside = absurd (omega arith)
lines_of_cut (x ∷ xs) inside = cut_at x xs (is_feed x) (lines_of_cut xs) (omega arith)

last_at : (x : ℕ) (xs : List ℕ) (b : Bool)
    → (0 < length xs → position_or_len is_feed xs ≡ length xs → lines_of xs ≡ xs ∷ [])
    → place_at b xs ≡ suc (length xs) → lines_at b x xs ≡ (x ∷ xs) ∷ []
last_at x xs true later none = absurd (omega arith)
last_at x [] false later none = refl
last_at x (y ∷ ys) false later none = ap (onto_first x) (later (omega arith) (omega arith))

pub lines_of_last : (xs : List ℕ) → 0 < length xs → position_or_len is_feed xs ≡ length xs
    → lines_of xs ≡ xs ∷ []
lines_of_last [] some none = absurd (omega arith)
lines_of_last (x ∷ xs) some none = last_at x xs (is_feed x) (lines_of_last xs) (omega arith)
