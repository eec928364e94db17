-- The addresses of what is shown, as a user sees them: a line for each, with the address as a JSON list (RFC
-- 8259), as a claims path pointer (OpenID4VP 1.0, section 7) names the same claim.
use Rattle.std.specs.Prelude.{List, map, ◌++◌, ℕ, codes}
use Rattle.serde_json.specs.Data.{Data, array, number, string, unsigned}
use Rattle.serde_json.specs.View.{items_of}
use Rattle.serde_json.specs.Written.{compact_text}
use Rattle.claim_names.specs.declared.address.Step.{Step}
use Rattle.claim_names.specs.declared.address.Step.TheVariants.{Name, Place}

-- a text for a name, a number for a place
abbrev pub step_data : Step → Data
step_data (Name name) = string name
step_data (Place place) = number (unsigned place)

abbrev pub address_data : List Step → Data
address_data steps = array (items_of (map step_data steps))

-- with no space in it
abbrev pub address_text : List Step → List ℕ
address_text steps = compact_text (address_data steps)

abbrev pub address_line : List Step → List ℕ
address_line steps = codes "    " ++ (address_text steps ++ codes "\n")
