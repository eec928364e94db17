-- The place of an address among those of the parts to hide. An address is the names and places that lead
-- from the root of a JSON value to a part of it.
use Rattle.std.specs.Prelude.{ℕ, suc, Bool, true, false, ◌==◌, ◌&&◌, List, [], ◌∷◌, Option, Some, None}
use Rattle.std.specs.Prelude.{option_map, if◌then◌else◌}
use Rattle.std.specs.Str.{bytes_eq}
use Rattle.claim_names.specs.declared.address.Step.{Step}
use Rattle.claim_names.specs.declared.address.Step.TheVariants.{Name, Place}

abbrev pub same_step : Step → Step → Bool
same_step (Name k) (Name l) = bytes_eq k l
same_step (Place i) (Place j) = i == j
same_step _ _ = false

abbrev pub same_address : List Step → List Step → Bool
same_address [] [] = true
same_address (s ∷ a) (t ∷ b) = same_step s t && same_address a b
same_address _ _ = false

-- the place, counted from 0, of an address among some, and none where it is not among them
abbrev pub number_in : List (List Step) → List Step → Option ℕ
number_in [] a = None
number_in (h ∷ hs) a = if same_address h a then Some 0 else option_map suc (number_in hs a)
