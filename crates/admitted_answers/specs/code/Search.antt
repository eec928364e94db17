-- What the search for the next answer computes.
use Rattle.std.specs.Prelude.{ℕ, ◌+◌, ◌*◌, ◌-◌, ◌/◌, ◌%◌, ◌^◌, ◌==◌, ◌&&◌, ◌||◌, nat_lt, nat_le, Bool, List}
use Rattle.std.specs.Prelude.{[], ◌∷◌, ◌++◌, length, take, Option, Some, None, option_map, is_some}
use Rattle.std.specs.Prelude.{if◌then◌else◌}
use Rattle.std.specs.Option.{option_to_list}
use Rattle.std.specs.Prelude.{zero, suc}
use Rattle.dcql_query.specs.Query.{Credential}
use Rattle.dcql_answers.specs.Fits.{least_fit}
use Rattle.dcql_answers.specs.declared.pick.Pick.{Pick}
use Rattle.dcql_answers.specs.declared.fits.Fit.{Fit}
use Rattle.admitted_answers.specs.declared.picks.Change.{Change}
use Rattle.admitted_answers.specs.declared.lists.Spot.{Spot}
use Rattle.dcql_answers.specs.Answer.{is_answered}

-- ---- one query

abbrev pub first_some : {A : Type 0} → Option A → Option A → Option A
first_some None y = y
first_some (Some x) y = Some x

abbrev pub put_at : ℕ → Pick → Change
put_at n p = record { kept = n; pick = p }

abbrev pub deeper : Change → Change
deeper c = put_at (c.kept + 1) c.pick

-- how the list is changed to the next one whose credentials are not before c
abbrev pub later_picks : List Fit → ℕ → Bool → ℕ → List Pick → Option Change
later_picks fits i m c [] = option_map (put_at 0) (least_fit fits i c 0)
later_picks fits i m c (p ∷ ps) =
    first_some (if m then option_map deeper (later_picks fits i m (p.credential + 1) ps) else None)
    (option_map (put_at 0) (least_fit fits i p.credential (p.set + 1)))

abbrev pub changed : List Pick → Change → List Pick
changed ps c = take c.kept ps ++ c.pick ∷ []

-- ---- the lists of the answered queries

abbrev pub least_list : List Fit → ℕ → Bool → List Pick
least_list fits i b = if b then option_to_list (least_fit fits i 0 0) else []

abbrev pub least_lists : List Fit → ℕ → List Bool → List (List Pick)
least_lists fits i [] = []
least_lists fits i (b ∷ bs) = least_list fits i b ∷ least_lists fits (i + 1) bs

abbrev pub at_query : ℕ → Change → Spot
at_query i c = record { query = i; change = c }

abbrev pub later_lists : List Fit → ℕ → List Credential → List (List Pick) → Option Spot
later_lists fits i [] a = None
later_lists fits i (m ∷ ms) [] = None
later_lists fits i (m ∷ ms) (ps ∷ a) =
    first_some (later_lists fits (i + 1) ms a)
    (if is_answered ps then option_map (at_query i) (later_picks fits i m.multiple 0 ps) else None)

-- the list of query i, as it is before the spot, changed at it, and the least after it
abbrev pub part : List Fit → ℕ → Spot → List Pick → List Pick
part fits i s ps = if nat_lt i s.query then ps else
    (if i == s.query then changed ps s.change else least_list fits i (is_answered ps))

abbrev pub parts_from : List Fit → ℕ → Spot → List (List Pick) → List (List Pick)
parts_from fits i s [] = []
parts_from fits i s (ps ∷ a) = part fits i s ps ∷ parts_from fits (i + 1) s a

-- the least lists of n credential queries from i on, of those whose bits a set has
abbrev pub lists_of : List Fit → ℕ → ℕ → ℕ → List (List Pick)
lists_of fits i zero a = []
lists_of fits i (suc n) a = least_list fits i (a % 2 == 1) ∷ lists_of fits (i + 1) n (a / 2)

-- ---- answered sets in their order

-- the number of sets before it: bit i is high where query i is not answered, the first query's the highest
abbrev pub rank_of : List (List Pick) → ℕ
rank_of [] = 0
rank_of (ps ∷ a) = (if is_answered ps then 0 else 2 ^ length a) + rank_of a

abbrev pub set_at : {A : Type 0} → List A → ℕ → ℕ
set_at [] r = 0
set_at (m ∷ ms) r = if nat_lt r (2 ^ length ms) then 1 + 2 * set_at ms r else 2 * set_at ms
    (r - 2 ^ length ms)

-- the queries that have a fit
abbrev pub fitting : {A : Type 0} → List Fit → ℕ → List A → ℕ
fitting fits i [] = 0
fitting fits i (m ∷ ms) = (if is_some (least_fit fits i 0 0) then 1 else 0) + 2 * fitting fits (i + 1) ms
