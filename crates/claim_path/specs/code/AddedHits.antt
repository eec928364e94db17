-- What the walk to one part of a tree adds to the hits that were found before it.
use Rattle.std.specs.Prelude.{◌≡◌, Bool, true, false, List, ◌++◌, map, filter, Option, Some, None}
use Rattle.claim_path.specs.declared.path.Scalar.{Scalar}
use Rattle.claim_path.specs.Select.{Address, Spot}
use Rattle.claim_path.specs.Hits.{is_match}

-- the addresses of the elements that match
abbrev pub hit_addresses : Option (List Scalar) → List Spot → List Address
hit_addresses values ss = map (λ s. s.0) (filter (λ s. is_match values s.1) ss)

-- what is selected here is not wrong, and its hits were added; or it is wrong
abbrev pub AddsHits : Option (List Scalar) → Option (List Spot) → Bool → List Address → List Address → Type 0
AddsHits values None right before after = right ≡ false
AddsHits values (Some ss) right before after = (right ≡ true) × (after ≡ before ++ hit_addresses values ss)
