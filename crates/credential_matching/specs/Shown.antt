-- What a claim set shows of a claim tree: the elements that its claims ask for, and nothing else
-- (OpenID4VP 1.0, sections 6.3, 6.4.1 and 7).
use Rattle.std.specs.Prelude.{◌↔◌, ℕ, List, [], ◌∷◌}
use Rattle.std.specs.BTreeSet.{insert_key}
use Rattle.std.specs.List.{Any, Contains, flat_map, slice_get}
use Rattle.std.specs.List.Sorted.{IsStrictlySortedBy}
use Rattle.std.specs.Option.{option_map_or}
use Rattle.claim_tree.specs.Tree.{Tree}
use Rattle.claim_tree.specs.Order.{address_cmp}
use Rattle.claim_path.specs.Select.{Address}
use Rattle.claim_path.specs.Hits.{hits}
use Rattle.credential_query.specs.Claims.{set_at}
use Rattle.credential_query.specs.Credential.{Claim, Credential as CredentialQuery}

-- the addresses that the claim at place i hits
abbrev pub hits_at : List Claim → Tree → ℕ → List Address
hits_at claims t i = option_map_or (λ c. hits c.path c.values t) (slice_get claims i) []

-- some claim of claim set s hits the address
abbrev pub IsHit : CredentialQuery → ℕ → Tree → Address → Type 0
IsHit q s t a = Any (λ i. Contains (hits_at q.claims t i) a) (set_at q s)

-- These are the addresses that claim set s shows: all that its claims hit and no others, each once, in
-- ascending order.
pub record IsShown (q : CredentialQuery) (s : ℕ) (t : Tree) (found : List Address) : Type 0 where
  pub ascending : IsStrictlySortedBy address_cmp found
  pub hits : (a : Address) → Contains found a ↔ IsHit q s t a

-- ---- the same, computed

-- the addresses, each once, in ascending order
abbrev pub in_order : List Address → List Address
in_order [] = []
in_order (x ∷ xs) = insert_key address_cmp (in_order xs) x

-- the addresses that claim set s shows
abbrev pub shown : CredentialQuery → ℕ → Tree → List Address
shown q s t = in_order (flat_map (hits_at q.claims t) (set_at q s))
