-- A text that grows by a part for each element of a list.
use Rattle.std.proofs.Common.{◌≡◌, ◌<◌, ℕ, ◌+◌, List, ◌∷◌, ◌++◌, drop, get_or, length, slice_get, Some}
use Rattle.std.proofs.Common.{ap, ◌∙◌, append_assoc}
use Rattle.std.proofs.lemmas.List.{at_drop_more}
use Rattle.std.proofs.lemmas.Option.{slice_get_within, slice_get-get_or}

-- what is left at a place begins with what stands there
pub left_at : {A : Type 0} (xs : List A) (i : ℕ) (x : A) → slice_get xs i ≡ Some x
    → drop i xs ≡ x ∷ drop (i + 1) xs
left_at xs i x h =
    let within : i < length xs = slice_get_within xs i x h in
    let is : get_or xs i x ≡ x = cc (slice_get-get_or xs i x within, h) in
    at_drop_more (λ l. l) xs i x within ∙ ap (λ (y : _). y ∷ drop (i + 1) xs) is

-- the text with the next part, and all parts that are left after it
pub added : (old new part rest all : List ℕ) → old ++ (part ++ rest) ≡ all → new ≡ old ++ part
    → new ++ rest ≡ all
added old new part rest all before step = ap (λ text. text ++ rest) step ∙ append_assoc old part rest ∙ before
