-- Which claim trees have what a claim set asks for (OpenID4VP 1.0, sections 6.3, 6.4.1 and 7).
use Rattle.std.specs.Prelude.{ℕ, Bool, false, nat_lt, List, [], length, slice_get}
use Rattle.std.specs.List.{list_all}
use Rattle.std.specs.Option.{option_map_or, unwrap_or}
use Rattle.claim_tree.specs.Tree.{Tree}
use Rattle.claim_path.specs.Hits.{hits}
use Rattle.credential_query.specs.Credential.{Claim, Credential}

-- the claim at place i has hits
abbrev pub has_hits_at : List Claim → Tree → ℕ → Bool
has_hits_at claims t i =
    option_map_or (λ c. nat_lt 0 (length (hits c.path c.values t))) (slice_get claims i) false

-- the claims at these places all have hits
abbrev pub have_hits : List Claim → Tree → List ℕ → Bool
have_hits claims t places = list_all (has_hits_at claims t) places

-- claim set s, as the places of its claims
abbrev pub set_at : Credential → ℕ → List ℕ
set_at q s = unwrap_or (slice_get q.sets s) []

-- every claim of claim set s has hits
abbrev pub claims_met : Credential → ℕ → Tree → Bool
claims_met q s t = have_hits q.claims t (set_at q s)
