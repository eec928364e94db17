-- The addresses of the parts to hide, as the spec of a test credential lists them, and the parts that they
-- lead to: a name leads to the member of an object, a place, counted from 0, to the element of a list.
use Rattle.std.specs.Prelude.{Bool, true, false, not, ◌&&◌, List, [], ◌∷◌, map, Option, Some, None}
use Rattle.std.specs.Prelude.{option_map, option_and_then, is_some, if◌then◌else◌}
use Rattle.std.specs.Option.{option_or}
use Rattle.std.specs.List.{list_any}
use Rattle.std.specs.Ordering.{eq_by_cmp}
use Rattle.serde_json.specs.Data.{Data}
use Rattle.serde_json.specs.Find.{get, at, as_str, as_array}
use Rattle.json_forms.specs.Look.{elements_of}
use Rattle.sdjwt_facts.specs.Facts.{moment_of}
use Rattle.claim_names.specs.declared.address.Step.{Step}
use Rattle.claim_names.specs.declared.address.Step.TheVariants.{Name, Place}
use Rattle.claim_names.specs.Order.{address_cmp}

-- ---- in JSON

-- all values, where each is there
abbrev pub all_some : {A : Type 0} → List (Option A) → Option (List A)
all_some [] = Some []
all_some (o ∷ os) = option_and_then (λ x. option_map (λ xs. x ∷ xs) (all_some os)) o

-- a string is a name, and an integer from 0 a place
abbrev pub step_of : Data → Option Step
step_of d = option_or (option_map Name (as_str d)) (option_map Place (moment_of d))

abbrev pub is_list : Data → Bool
is_list d = is_some (as_array d)

-- a list of steps
abbrev pub address_of : Data → Option (List Step)
address_of d = if is_list d then all_some (map step_of (elements_of d)) else None

-- a list of addresses
abbrev pub addresses_of : Data → Option (List (List Step))
addresses_of d = if is_list d then all_some (map address_of (elements_of d)) else None

-- ---- what they lead to

abbrev pub part_of : Step → Data → Option Data
part_of (Name k) d = get k d
part_of (Place i) d = at i d

abbrev pub part_at : List Step → Data → Option Data
part_at [] d = Some d
part_at (s ∷ a) d = option_and_then (part_at a) (part_of s d)

-- the address has steps, and they lead to a part of the value
abbrev pub leads_to_part : Data → List Step → Bool
leads_to_part d [] = false
leads_to_part d (s ∷ a) = is_some (part_at (s ∷ a) d)

-- no two are equal
abbrev pub addresses_differ : List (List Step) → Bool
addresses_differ [] = true
addresses_differ (a ∷ rest) = not (list_any (λ b. eq_by_cmp address_cmp b a) rest) && addresses_differ rest
