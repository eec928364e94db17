-- Whether the credential queries that have a presentation are enough for a query (OpenID4VP 1.0, section
-- 6.4.2).
use Rattle.std.specs.Prelude.{◌≡◌, ℕ, ◌<◌, ◌⊎◌, true, List, [], ◌∷◌, length, Option, Some, None}
use Rattle.std.specs.Int.{bit_at}
use Rattle.std.specs.List.{AllByRecursion}
use Rattle.dcql_query.specs.Query.{CredentialSet, Query}

-- a number names credential query i
abbrev pub Names : ℕ → ℕ → Type 0
Names a i = bit_at a i ≡ 1

-- each credential query that an option names is present
abbrev pub IsMet : ℕ → ℕ → Type 0
IsMet present option = (i : ℕ) → Names option i → Names present i

abbrev pub IsOneMet : ℕ → List ℕ → Type 0
IsOneMet present [] = ⊥
IsOneMet present (o ∷ os) = IsMet present o ⊎ IsOneMet present os

-- each of n credential queries is present where there are no credential sets, else one option of each
-- credential set that is required
abbrev pub AreEnough : ℕ → ℕ → Option (List CredentialSet) → Type 0
AreEnough present n None = (i : ℕ) → i < n → Names present i
AreEnough present n (Some sets) = AllByRecursion (λ s. s.required ≡ true → IsOneMet present s.options) sets

-- the credential queries of a number, bit i of which stands for credential query i, are enough
abbrev pub IsSatisfiedBy : Query → ℕ → Type 0
IsSatisfiedBy q present = AreEnough present (length q.credentials) q.sets
