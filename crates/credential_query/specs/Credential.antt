-- What a query in the Digital Credentials Query Language asks of one credential (OpenID4VP 1.0, sections 6.1
-- and 6.3).
use Rattle.std.specs.Prelude.{ℕ, Bool, true, List, Option}
use Rattle.std.specs.List.{list_any}
use Rattle.std.specs.Option.{option_map_or}
use Rattle.std.specs.Str.{bytes_eq}
use Rattle.claim_path.specs.declared.path.PathStep.{PathStep}
use Rattle.claim_path.specs.declared.path.Scalar.{Scalar}
use Rattle.claim_tree.specs.declared.facts.Format.{Format}

-- A claim (section 6.3): a path, and the values of which its element must have one, or none where any will
-- do.
pub record Claim : Type 0 where
  pub path : List PathStep
  pub values : Option (List Scalar)

-- A credential query (section 6.1). `format` is none where it is another than the two that are known. `kinds`
-- are the types that `meta` allows, and none where any is. A claim set is a list of places in `claims`.
pub record Credential : Type 0 where
  pub id : List ℕ
  pub format : Option Format
  pub kinds : Option (List (List ℕ))
  pub multiple : Bool
  pub binding : Bool
  pub claims : List Claim
  pub sets : List (List ℕ)

-- a credential of this type may be presented: it is one of those that are allowed, or any is
abbrev pub allows_kind : Credential → List ℕ → Bool
allows_kind q kind = option_map_or (list_any (bytes_eq kind)) q.kinds true
