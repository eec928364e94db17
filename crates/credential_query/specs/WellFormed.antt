-- What holds of every credential query that is read: the form of its id, and how many there are of each thing
-- (OpenID4VP 1.0, sections 6.1, 6.3 and 7). The upper limits are this product's own.
use Rattle.std.specs.Prelude.{◌≡◌, ℕ, ◌<◌, ◌≤◌, true, List, length, IfSome}
use Rattle.std.specs.List.{AllByRecursion}
use Rattle.claim_path.specs.Path.{IsPath, IsValues}
use Rattle.dcql_rules.specs.Ids.{is_id}
use Rattle.credential_query.specs.Credential.{Claim, Credential}

abbrev pub IsClaim : Claim → Type 0
IsClaim c = IsPath c.path × IfSome c.values IsValues

-- a claim set names claims of its credential query
abbrev pub IsClaimSet : Credential → List ℕ → Type 0
IsClaimSet q places = AllByRecursion (λ i. i < length q.claims) places

pub record IsCredential (q : Credential) : Type 0 where
  pub id : is_id q.id ≡ true
  pub claims : AllByRecursion IsClaim q.claims
  pub few_claims : length q.claims ≤ 64
  pub some_sets : 0 < length q.sets
  pub few_sets : length q.sets ≤ 32
  pub sets : AllByRecursion (IsClaimSet q) q.sets
