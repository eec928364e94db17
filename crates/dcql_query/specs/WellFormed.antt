-- What holds of every query that is read: that no two ids are equal, how many there are of each thing, and
-- which options there are (OpenID4VP 1.0, sections 6.1, 6.2 and 6.4). The upper limits are this product's
-- own.
use Rattle.std.specs.Prelude.{◌≡◌, ℕ, ◌<◌, ◌≤◌, ◌^◌, true, map, length, IfSome}
use Rattle.std.specs.List.{AllByRecursion}
use Rattle.base_forms.specs.Texts.{differ}
use Rattle.credential_query.specs.WellFormed.{IsCredential}
use Rattle.dcql_query.specs.Query.{CredentialSet, Query, sets_in}

-- an option names one or more of n credential queries
abbrev pub IsOption : ℕ → ℕ → Type 0
IsOption n option = (0 < option) × (option < 2 ^ n)

pub record IsCredentialSet (n : ℕ) (s : CredentialSet) : Type 0 where
  pub some : 0 < length s.options
  pub few : length s.options ≤ 16
  pub options : AllByRecursion (IsOption n) s.options

pub record IsQuery (q : Query) : Type 0 where
  pub some : 0 < length q.credentials
  pub few : length q.credentials ≤ 16
  pub credentials : AllByRecursion IsCredential q.credentials
  pub ids_differ : differ (map (λ c. c.id) q.credentials) ≡ true
  pub some_sets : IfSome q.sets (λ ss. 0 < length ss)
  pub few_sets : length (sets_in q) ≤ 16
  pub sets : AllByRecursion (IsCredentialSet (length q.credentials)) (sets_in q)
