-- Which claim trees have what a credential query asks for (OpenID for Verifiable Presentations 1.0, section
-- 6.4.1). The format and `meta` of the query are not looked at.
use Rattle.std.specs.Prelude.{ℕ, List, length, Bool}
use Rattle.std.specs.List.{list_any, range_with_len}
use Rattle.claim_tree.specs.Tree.{Tree}
use Rattle.dcql_query.specs.Claims.{claims_met}
use Rattle.dcql_query.specs.Query.{Credential}

-- every claim of one of these claim sets has hits in the tree
abbrev pub is_some_met : Credential → Tree → List ℕ → Bool
is_some_met credential tree sets = list_any (λ set. claims_met credential set tree) sets

-- every claim of some claim set has hits in the tree
abbrev pub is_met : Credential → Tree → Bool
is_met credential tree = is_some_met credential tree (range_with_len 0 (length credential.sets))
