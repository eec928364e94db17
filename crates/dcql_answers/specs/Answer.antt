-- Answers to a query, and their order. An answer gives each query a list of picks.
use Rattle.std.specs.Prelude.{◌≡◌, ℕ, Bool, true, false, List, [], ◌∷◌, map, if◌then◌else◌}
use Rattle.std.specs.Ordering.{nat_cmp, on, then_cmp}
use Rattle.std.specs.Cmp.Lexicographic.{slice_cmp}
use Rattle.std.specs.declared.cmp.Ordering.{Ordering}
use Rattle.std.specs.declared.cmp.Ordering.TheVariants.{Less}
use Rattle.dcql_answers.specs.declared.pick.Pick.{Pick}

-- by credential, then by claim set
abbrev pub pick_cmp : Pick → Pick → Ordering
pick_cmp = then_cmp (on (λ p. p.credential) nat_cmp) (on (λ p. p.set) nat_cmp)

-- pick by pick; a list comes before what extends it
abbrev pub picks_cmp : List Pick → List Pick → Ordering
picks_cmp = slice_cmp pick_cmp

-- a query is answered where it has picks
abbrev pub is_answered : List Pick → Bool
is_answered [] = false
is_answered (p ∷ ps) = true

abbrev pub answered : List (List Pick) → List Bool
answered a = map is_answered a

-- answered comes before not answered
abbrev pub place_of : Bool → ℕ
place_of b = if b then 0 else 1

-- query by query
abbrev pub sets_cmp : List Bool → List Bool → Ordering
sets_cmp = slice_cmp (on place_of nat_cmp)

-- by the answered queries, then by the lists of picks
abbrev pub answer_cmp : List (List Pick) → List (List Pick) → Ordering
answer_cmp = then_cmp (on answered sets_cmp) (slice_cmp picks_cmp)

abbrev pub Before : List (List Pick) → List (List Pick) → Type 0
Before a b = answer_cmp a b ≡ Less
