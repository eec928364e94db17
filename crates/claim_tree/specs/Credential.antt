-- A credential in one record for both formats: an SD-JWT VC (SD-JWT-based Verifiable Credentials, section 3)
-- and a mobile document (ISO/IEC 18013-5, section 9.1.2). It has what the credential says, when it is valid,
-- and its issuer's signature.
use Rattle.std.specs.Prelude.{ℕ, ℤ, List, Option}
use Rattle.claim_tree.specs.Tree.{Tree}
use Rattle.claim_tree.specs.Validity.{IsValidAt}
use Rattle.claim_tree.specs.declared.algorithm.Alg.{Alg}
use Rattle.claim_tree.specs.declared.algorithm.Alg.TheVariants as alg
use Rattle.claim_tree.specs.declared.facts.Format.{Format}

-- ---- the issuer's signature

-- The algorithm that a signed message names: a JWS by a name (RFC 7515, section 4.1.1), a COSE message by an
-- integer (RFC 9052, section 3.1).
pub data Algorithm : Type 0 where
  jose : List ℕ → Algorithm
  cose : ℤ → Algorithm

-- the same as the code hands it on
abbrev pub named : Alg → Algorithm
named (alg.Jose name) = jose name.now
named (alg.Cose number) = cose number

-- an algorithm, the bytes that are signed, and the signature's bytes
pub record Seal : Type 0 where
  pub algorithm : Algorithm
  pub message : List ℕ
  pub signature : List ℕ

-- ---- the credential

-- `kind` is its type, `issuer` the name of the key that signed it, `holder` that of the key that it is bound
-- to, if it is bound to one. It is valid from the second `first` on and, if it expires, before the second
-- `past`.
pub record Credential : Type 0 where
  pub format : Format
  pub kind : List ℕ
  pub issuer : List ℕ
  pub holder : Option (List ℕ)
  pub first : ℕ
  pub past : Option ℕ
  pub tree : Tree
  pub seal : Seal

-- it is valid at the second `now`
abbrev pub IsInDate : Credential → ℕ → Type 0
IsInDate credential now = IsValidAt credential.first credential.past now
