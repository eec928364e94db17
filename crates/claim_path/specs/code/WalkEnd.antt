-- How a walk along the rest of a path ends, by what it selects.
use Rattle.std.specs.Prelude.{List, Option, Some, None, if◌then◌else◌}
use Rattle.std.specs.List.{list_any}
use Rattle.claim_path.specs.declared.path.Scalar.{Scalar}
use Rattle.claim_path.specs.declared.any_hit.WalkEnd.{WalkEnd}
use Rattle.claim_path.specs.declared.any_hit.WalkEnd.TheVariants.{Wrong, NoHit, Hit}
use Rattle.claim_path.specs.Select.{Spot}
use Rattle.claim_path.specs.Hits.{is_match}

abbrev pub end_of : Option (List Scalar) → Option (List Spot) → WalkEnd
end_of values None = Wrong
end_of values (Some ss) = if list_any (λ s. is_match values s.1) ss then Hit else NoHit

-- the end of two walks together
abbrev pub both_ends : WalkEnd → WalkEnd → WalkEnd
both_ends Wrong y = Wrong
both_ends NoHit y = y
both_ends Hit Wrong = Wrong
both_ends Hit NoHit = Hit
both_ends Hit Hit = Hit
