-- Which sets of credential queries may be answered together (OpenID4VP 1.0, section 6.4.2). A set is a
-- number,
-- bit i of which says whether it has credential query i.
use Rattle.std.specs.Prelude.{◌≡◌, ℕ, ◌-◌, ◌^◌, ◌<◌, ◌⊎◌, false, List, [], ◌∷◌, length, Option, Some, None}
use Rattle.std.specs.Prelude.{bit_or, ⊤}
use Rattle.dcql_query.specs.Query.{CredentialSet, Query}

abbrev pub IsIn : {A : Type 0} → A → List A → Type 0
IsIn x [] = ⊥
IsIn x (y ∷ ys) = (x ≡ y) ⊎ IsIn x ys

-- a choice from the credential sets: one option of each that is required, and one or none of each other
abbrev pub IsChoice : List CredentialSet → List (Option ℕ) → Type 0
IsChoice [] [] = ⊤
IsChoice (s ∷ ss) (Some o ∷ os) = IsIn o s.options × IsChoice ss os
IsChoice (s ∷ ss) (None ∷ os) = (s.required ≡ false) × IsChoice ss os
IsChoice [] (o ∷ os) = ⊥
IsChoice (s ∷ ss) [] = ⊥

abbrev pub union : List (Option ℕ) → ℕ
union [] = 0
union (Some o ∷ os) = bit_or o (union os)
union (None ∷ os) = union os

-- there is a choice with this union
abbrev pub IsUnion : List CredentialSet → ℕ → Type 0
IsUnion ss a = (os : List (Option ℕ)) × IsChoice ss os × (union os ≡ a)

-- all of n credential queries where there are no credential sets
abbrev pub IsWanted : ℕ → Option (List CredentialSet) → ℕ → Type 0
IsWanted n None a = a ≡ 2 ^ n - 1
IsWanted n (Some ss) a = IsUnion ss a

abbrev pub IsAnswered : Query → ℕ → Type 0
IsAnswered q a = (0 < a) × IsWanted (length q.credentials) q.sets a
