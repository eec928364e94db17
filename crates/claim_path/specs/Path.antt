-- Claims path pointers and the values of a claim: how long they are, and the form of a path into a mobile
-- document (OpenID4VP 1.0, sections 6.3, 7 and 7.2). The upper limits are this product's own.
use Rattle.std.specs.Prelude.{◌<◌, ◌≤◌, Bool, true, false, List, [], ◌∷◌, length}
use Rattle.claim_path.specs.declared.path.PathStep.{PathStep}
use Rattle.claim_path.specs.declared.path.PathStep.TheVariants.{Member}
use Rattle.claim_path.specs.declared.path.Scalar.{Scalar}

-- a path has 1 to 16 steps
abbrev pub IsPath : List PathStep → Type 0
IsPath steps = (0 < length steps) × (length steps ≤ 16)

-- a claim that asks for values asks for 1 to 32
abbrev pub IsValues : List Scalar → Type 0
IsValues values = (0 < length values) × (length values ≤ 32)

-- a path into a mobile document is a namespace and an element of it
abbrev pub is_two_names : List PathStep → Bool
is_two_names (Member k ∷ Member l ∷ []) = true
is_two_names _ = false
