-- What the search for the next answered set finds in the table of sets.
use Rattle.std.specs.Prelude.{◌≡◌, ℕ, ◌^◌, ◌<◌, ◌≤◌, ◌==◌, ◌&&◌, Bool, true, false, List, length, bit_and}
use Rattle.answered_sets.specs.Table.{holds}
use Rattle.dcql_query.specs.Query.{Credential}
use Rattle.admitted_answers.specs.code.Search.{set_at}

-- it is in the table, and all its queries are among the fitting ones
abbrev pub is_open : List ℕ → ℕ → ℕ → Bool
is_open words fitting a = holds words a && (bit_and a fitting == a)

abbrev pub IsNoSet : List ℕ → ℕ → List Credential → ℕ → ℕ → Type 0
IsNoSet words fitting queries from end = (r : ℕ) → from ≤ r → r < end
    → is_open words fitting (set_at queries r) ≡ false

pub record IsFirstSet (words : List ℕ) (fitting : ℕ) (queries : List Credential) (from set : ℕ) : Type 0 where
  pub rank : ℕ
  pub low : from ≤ rank
  pub high : rank < 2 ^ length queries
  pub is : set ≡ set_at queries rank
  pub opens : is_open words fitting set ≡ true
  pub first : IsNoSet words fitting queries from rank
