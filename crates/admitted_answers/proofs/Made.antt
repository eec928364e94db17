-- The loop that makes the least lists of a set.
use Rattle.std.proofs.Common.{◌≡◌, ℕ, ◌+◌, ◌-◌, ◌/◌, ◌%◌, ◌<◌, suc, List, [], ◌∷◌, ◌++◌, map, ap, sym, ◌∙◌}
use Rattle.std.proofs.Common.{append_assoc, arith}
use Rattle.std.specs.Prelude.{◌==◌}
use Rattle.std.proofs.lemmas.List.{map-append}
use Rattle.dcql_answers.specs.declared.pick.Pick.{Pick}
use Rattle.dcql_answers.specs.declared.fits.Fit.{Fit}
use Rattle.admitted_answers.specs.code.Search.{least_list, lists_of}

pub one_more : {V : Type 0} (f : V → List Pick) (fits : List Fit) (n i a : ℕ) (xs ys : List V) (v : V) → i < n
    → ys ≡ xs ++ v ∷ [] → f v ≡ least_list fits i (a % 2 == 1) → (all : List (List Pick))
    → map f xs ++ lists_of fits i (n - i) a ≡ all
    → map f ys ++ lists_of fits (i + 1) (n - (i + 1)) (a / 2) ≡ all
one_more f fits n i a xs ys v h e g all inv =
    let later = lists_of fits (i + 1) (n - (i + 1)) (a / 2) in
    let more : n - i ≡ suc (n - (i + 1)) = omega arith in
    let now : map f ys ≡ map f xs ++ f v ∷ [] = ap (map f) e ∙ map-append f xs (v ∷ []) in
    ap (λ l. l ++ later) now ∙ append_assoc (map f xs) (f v ∷ []) later
    ∙ ap (λ l. map f xs ++ l ∷ later) g
    ∙ ap (λ m. map f xs ++ lists_of fits i m a) (sym more)
    ∙ inv
