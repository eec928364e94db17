-- Every number of an address is an integer.
use Rattle.std.proofs.Common.{◌≡◌, List, [], ◌∷◌, map, false, refl}
use Rattle.serde_json.specs.View.{items_of}
use Rattle.serde_json.specs.Written.{items_have_float}
use Rattle.claim_names.specs.declared.address.Step.{Step}
use Rattle.claim_names.specs.declared.address.Step.TheVariants.{Name, Place}
use Rattle.option_texts.specs.Addresses.{step_data}

pub no_float : (steps : List Step) → items_have_float (items_of (map step_data steps)) ≡ false
no_float [] = refl
no_float (Name name ∷ steps) = no_float steps
no_float (Place place ∷ steps) = no_float steps
