-- How the table of sets is filled, one credential set after the other.
use Rattle.std.specs.Prelude.{◌≡◌, ℕ, ◌^◌, ◌<◌, ◌⊎◌, true, false, List, bit_or, Option}
use Rattle.dcql_query.specs.Query.{CredentialSet}
use Rattle.answered_sets.specs.Answered.{IsIn, IsChoice, union}
use Rattle.answered_sets.specs.Table.{is_in}

-- b is the union of a with one of the options
abbrev pub Joins : List ℕ → ℕ → ℕ → Type 0
Joins options a b = (o : ℕ) × IsIn o options × (bit_or a o ≡ b)

-- b is the union of a with a choice from the credential set
abbrev pub Chooses : CredentialSet → ℕ → ℕ → Type 0
Chooses set a b = ((set.required ≡ false) × (a ≡ b)) ⊎ Joins set.options a b

-- a is reached by one more credential set from a set below n
abbrev pub Goes : List ℕ → CredentialSet → ℕ → ℕ → Type 0
Goes words set n a = (b : ℕ) × (b < n) × (is_in words b ≡ true) × Chooses set b a

-- a is the union of a set in the table with a choice from these credential sets
abbrev pub Reaches : List ℕ → List CredentialSet → ℕ → Type 0
Reaches words sets a = (b : ℕ) × (b < 2 ^ 16) × (is_in words b ≡ true)
    × ((os : List (Option ℕ)) × IsChoice sets os × (bit_or b (union os) ≡ a))
