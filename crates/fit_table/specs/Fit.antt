-- Which credential of a wallet may be presented for which credential query of a query, under which claim set
-- (OpenID4VP 1.0, sections 6.1 and 6.4.1).
use Rattle.std.specs.Prelude.{ℕ, ◌<◌, List, length, slice_get, IsSomeAnd, IsOkAnd}
use Rattle.claim_tree.specs.Credential.{Credential}
use Rattle.credential_query.specs.Credential.{Credential as CredentialQuery}
use Rattle.credential_matching.specs.Meets.{Meets}
use Rattle.dcql_answers.specs.declared.fits.Fit.{Fit}
use Rattle.dcql_query.specs.Query.{Query}
use Rattle.key_device.specs.Calls.{Held}
use Rattle.fit_table.specs.Slot.{Stands}
use Rattle.fit_table.specs.Usable.{IsUsable}

-- Claim set s is one of the query, the credential meets it, and is usable for the query.
pub record FitsUnder (q : CredentialQuery) (s : ℕ) (held : Held) (now : ℕ) (c : Credential) : Type 0 where
  pub set : s < length q.sets
  pub meets : Meets q s c
  pub usable : IsUsable q held now c

-- The places are those of a credential query, of a slot in which a credential was read, and of a claim set
-- for which it fits.
abbrev pub IsFit : Query → List Stands → Held → ℕ → Fit → Type 0
IsFit query slots held now fit =
    IsSomeAnd (slice_get query.credentials fit.query) (λ q.
    IsSomeAnd (slice_get slots fit.credential) (λ slot.
    IsOkAnd slot (λ c. FitsUnder q fit.set held now c)))
