-- The hits of a claim: the selected elements that equal one of its `values` in kind and value, and all of
-- them where it has no `values` (OpenID4VP 1.0, sections 6.3 and 6.4.1).
use Rattle.std.specs.Prelude.{Bool, true, false, List, [], map, filter, Option, Some, None, unwrap_or}
use Rattle.std.specs.Ordering.{int_eq}
use Rattle.std.specs.List.{list_any}
use Rattle.std.specs.Str.{bytes_eq}
use mathlib.Core.Bool.{beq}
use Rattle.claim_tree.specs.Tree.{Tree, Text, Whole, Truth}
use Rattle.claim_path.specs.declared.path.PathStep.{PathStep}
use Rattle.claim_path.specs.declared.path.Scalar.{Scalar}
use Rattle.claim_path.specs.declared.path.Scalar.TheVariants as scalar
use Rattle.claim_path.specs.Select.{Address, select}

-- the element is this value, in kind too
abbrev pub equals : Scalar → Tree → Bool
equals (scalar.Text s) (Text u) = bytes_eq s u
equals (scalar.Whole y) (Whole z) = int_eq y z
equals (scalar.Truth b) (Truth c) = beq b c
equals _ _ = false

-- the element is one of the values, or there are no values
abbrev pub is_match : Option (List Scalar) → Tree → Bool
is_match None t = true
is_match (Some vs) t = list_any (λ v. equals v t) vs

-- the addresses that the path hits, in the order of the tree
abbrev pub hits : List PathStep → Option (List Scalar) → Tree → List Address
hits path values t = map (λ s. s.0) (filter (λ s. is_match values s.1) (unwrap_or (select path t) []))
