-- Whether an answer is admitted, as it is tested.
use Rattle.std.specs.Prelude.{ℕ, ◌+◌, ◌==◌, ◌&&◌, ◌||◌, nat_le, Bool, true, false, List, [], ◌∷◌, Option}
use Rattle.std.specs.Prelude.{Some, None}
use Rattle.dcql_answers.specs.declared.pick.Pick.{Pick}
use Rattle.dcql_answers.specs.declared.fits.Fit.{Fit}
use Rattle.dcql_answers.specs.Fits.{least_fit}
use Rattle.dcql_query.specs.Query.{Credential}

abbrev pub is_same : Pick → Option Pick → Bool
is_same p None = false
is_same p (Some r) = (r.credential == p.credential) && (r.set == p.set)

abbrev pub is_empty : List Pick → Bool
is_empty [] = true
is_empty (p ∷ ps) = false

-- picks of query i whose credentials rise from c, each a fit, and one at most unless several are taken
abbrev pub is_list : List Fit → ℕ → Bool → ℕ → List Pick → Bool
is_list fits i m c [] = true
is_list fits i m c (p ∷ ps) = is_same p (least_fit fits i p.credential p.set) &&
    (nat_le c p.credential && ((m || is_empty ps) && is_list fits i m (p.credential + 1) ps))

abbrev pub are_lists : List Fit → ℕ → List Credential → List (List Pick) → Bool
are_lists fits i [] [] = true
are_lists fits i (m ∷ ms) (ps ∷ a) = is_list fits i m.multiple 0 ps && are_lists fits (i + 1) ms a
are_lists fits i [] (ps ∷ a) = false
are_lists fits i (m ∷ ms) [] = false
