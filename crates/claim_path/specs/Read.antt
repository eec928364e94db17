-- Claims path pointers and the values of a claim, in JSON (OpenID4VP 1.0, sections 6.3 and 7).
use Rattle.std.specs.Prelude.{ℕ, Bool, not, is_some, is_none, nat_lt, ◌||◌, List, [], ◌∷◌, length, filter_map}
use Rattle.std.specs.Prelude.{Option, Some, None, option_map, Result}
use Rattle.std.specs.List.{list_all}
use Rattle.serde_json.specs.Data.{Data, null, boolean, number, string, array, object}
use Rattle.serde_json.specs.Find.{as_array, as_u64, as_integer}
use Rattle.claim_path.specs.declared.path.PathStep.{PathStep}
use Rattle.claim_path.specs.declared.path.PathStep.TheVariants.{Member, Every, Place}
use Rattle.claim_path.specs.declared.path.Scalar.{Scalar}
use Rattle.claim_path.specs.declared.path.Scalar.TheVariants.{Text, Whole, Truth}
use Rattle.json_forms.specs.Look.{elements_of, is_empty}
use Rattle.base_forms.specs.Rules.{rule, first, unless_broken}

-- a step is a string, null, or an integer from 0 to 2^64 - 1
abbrev pub step_of : Data → Option PathStep
step_of null = Some Every
step_of (boolean b) = None
step_of (number n) = option_map Place (as_u64 n)
step_of (string s) = Some (Member s)
step_of (array ds) = None
step_of (object ms) = None

abbrev pub are_steps : List Data → Bool
are_steps ds = list_all (λ s. is_some (step_of s)) ds

-- 1 no list, 2 empty, 3 a step of another kind, 4 more than 16 steps
abbrev pub path_rule : Data → Option ℕ
path_rule d = first
    (rule 1 (is_none (as_array d))
    ∷ rule 2 (is_empty (elements_of d))
    ∷ rule 3 (not (are_steps (elements_of d)))
    ∷ rule 4 (nat_lt 16 (length (elements_of d)))
    ∷ [])

abbrev pub steps_of : Data → List PathStep
steps_of d = filter_map step_of (elements_of d)

-- the path, or the number of the first rule that is broken
abbrev pub path_of : Data → Result (List PathStep) ℕ
path_of d = unless_broken (path_rule d) (steps_of d)

-- a value is a string, an integer or a boolean
abbrev pub scalar_of : Data → Option Scalar
scalar_of null = None
scalar_of (boolean b) = Some (Truth b)
scalar_of (number n) = option_map Whole (as_integer n)
scalar_of (string s) = Some (Text s)
scalar_of (array ds) = None
scalar_of (object ms) = None

abbrev pub are_scalars : List Data → Bool
are_scalars ds = list_all (λ s. is_some (scalar_of s)) ds

-- 1 no list of 1 to 32 strings, integers and booleans
abbrev pub values_rule : Data → Option ℕ
values_rule d =
    rule 1
    (is_empty (elements_of d) || not (are_scalars (elements_of d)) || nat_lt 32 (length (elements_of d)))

abbrev pub scalars_of : Data → List Scalar
scalars_of d = filter_map scalar_of (elements_of d)

abbrev pub values_of : Data → Result (List Scalar) ℕ
values_of d = unless_broken (values_rule d) (scalars_of d)
