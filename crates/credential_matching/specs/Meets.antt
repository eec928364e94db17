-- Which credentials may be presented for a credential query (OpenID4VP 1.0, sections 6.1, 6.3 and 6.4.1).
use Rattle.std.specs.Prelude.{◌≡◌, ℕ, ◌<◌, true, length, option_map, Some, IsSome}
use Rattle.claim_tree.specs.Tree.{Tree}
use Rattle.claim_tree.specs.Credential.{Credential}
use Rattle.claim_tree.specs.declared.facts.Facts.{Facts}
use Rattle.credential_query.specs.Credential.{Credential as CredentialQuery, allows_kind}
use Rattle.credential_query.specs.Claims.{claims_met}

-- These facts and this tree are those of the credential.
pub record Describes (facts : Facts) (t : Tree) (c : Credential) : Type 0 where
  pub format : facts.format ≡ c.format
  pub kind : facts.kind.now ≡ c.kind
  pub issuer : facts.issuer.now ≡ c.issuer
  pub holder : option_map (λ name. name.now) facts.holder ≡ c.holder
  pub first : facts.first ≡ c.first
  pub past : facts.past ≡ c.past
  pub tree : t ≡ c.tree

-- The credential has the format that is asked for and a type that `meta` allows, and is bound to a holder's
-- key where binding is asked for.
pub record Allows (q : CredentialQuery) (c : Credential) : Type 0 where
  pub format : q.format ≡ Some c.format
  pub kind : allows_kind q c.kind ≡ true
  pub binding : q.binding ≡ true → IsSome c.holder

-- The credential is allowed, and every claim of claim set s has hits in its tree.
pub record Meets (q : CredentialQuery) (s : ℕ) (c : Credential) : Type 0 where
  pub allowed : Allows q c
  pub claims : claims_met q s c.tree ≡ true

-- It meets one of the claim sets.
abbrev pub MeetsSome : CredentialQuery → Credential → Type 0
MeetsSome q c = (s : ℕ) × (s < length q.sets) × Meets q s c
