-- Which credentials may be presented at a moment, with the keys that are held (OpenID4VP 1.0, section 6.1;
-- RFC 9901, section 4.3; ISO/IEC 18013-5, section 9.1.3).
use Rattle.std.specs.Prelude.{◌≡◌, ℕ, ◌⊎◌, true, List, Option, IsSome, IsSomeAnd}
use Rattle.claim_tree.specs.Credential.{Credential, IsInDate}
use Rattle.claim_tree.specs.declared.facts.Format.{Format}
use Rattle.claim_tree.specs.declared.facts.Format.TheVariants.{Mdoc}
use Rattle.credential_query.specs.Credential.{Credential as CredentialQuery}
use Rattle.key_device.specs.Calls.{Held}

-- Its holder signs where the query asks for binding, and always where it is a mobile document.
abbrev pub NeedsKey : CredentialQuery → Format → Type 0
NeedsKey q format = (q.binding ≡ true) ⊎ (format ≡ Mdoc)

-- it has a holder whose key is held
abbrev pub IsHeld : Held → Option (List ℕ) → Type 0
IsHeld held holder = IsSomeAnd holder (λ name. IsSome (held name))

-- It is in date at the second `now`, and its holder's key is held where it is needed.
pub record IsUsable (q : CredentialQuery) (held : Held) (now : ℕ) (c : Credential) : Type 0 where
  pub in_date : IsInDate c now
  pub key : NeedsKey q c.format → IsHeld held c.holder
