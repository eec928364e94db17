-- A table of sets of credential queries, as words that have a bit for each set.
use Rattle.std.specs.Prelude.{◌≡◌, ℕ, ◌/◌, ◌%◌, ◌^◌, ◌<◌, ◌==◌, ◌&&◌, not, ◌↔◌, Bool, true, List, slice_index}
use Rattle.std.specs.Int.{bit_at}
use Rattle.dcql_query.specs.Query.{Query}
use Rattle.answered_sets.specs.Answered.{IsAnswered}

abbrev pub is_in : List ℕ → ℕ → Bool
is_in words a = bit_at (slice_index words (a / 64)) (a % 64) == 1

-- the empty set is none of them
abbrev pub holds : List ℕ → ℕ → Bool
holds words a = not (a == 0) && is_in words a

-- the table holds the sets that may be answered together
abbrev pub Tells : Query → List ℕ → Type 0
Tells q words = (a : ℕ) → a < 2 ^ 16 → (holds words a ≡ true) ↔ IsAnswered q a
