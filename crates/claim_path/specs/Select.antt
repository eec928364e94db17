-- What a claims path pointer selects in a claim tree (OpenID4VP 1.0, section 7).
--
-- Each step maps the whole selection, which begins with the root:
--   a name    each record gives its member of that name, or drops out where it has none
--   null      each list gives all its elements
--   a number  each list gives its element at that place from 0, or drops out where it has none; a loose list
--   drops out
-- A step makes the whole path wrong where any selected element is of another kind, and so does an empty
-- selection.
use Rattle.std.specs.Prelude.{ℕ, ◌+◌, true, false, List, [], ◌∷◌, ◌++◌, Option, Some, None, option_map}
use Rattle.std.specs.Prelude.{option_and_then}
use Rattle.std.specs.List.{slice_get}
use Rattle.std.specs.Option.{option_to_list}
use Rattle.claim_tree.specs.Tree.{Tree, ListOf, RecordOf, element_trees, member_at}
use Rattle.claim_names.specs.declared.address.Step.{Step}
use Rattle.claim_names.specs.declared.address.Step.TheVariants as to
use Rattle.claim_path.specs.declared.path.PathStep.{PathStep}
use Rattle.claim_path.specs.declared.path.PathStep.TheVariants.{Member, Every, Place}

abbrev pub Address : Type 0
Address = List Step

-- an element that is selected, with its address
abbrev pub Spot : Type 0
Spot = Address × Tree

-- elements of a list at an address, the first at place n
abbrev pub spots_from : Address → ℕ → List Tree → List Spot
spots_from a n [] = []
spots_from a n (t ∷ ts) = (a ++ to.Place n ∷ [], t) ∷ spots_from a (n + 1) ts

-- What a step makes of one element: nothing, one or many, or `None` where it makes the path wrong.
abbrev pub step : PathStep → Spot → Option (List Spot)
step (Member k) (a, RecordOf ms) =
    Some (option_to_list (option_map (λ t. (a ++ to.Name k ∷ [], t)) (member_at k ms)))
step Every (a, ListOf loose es) = Some (spots_from a 0 (element_trees es))
step (Place i) (a, ListOf true es) = Some []
step (Place i) (a, ListOf false es) =
    Some (option_to_list (option_map (λ t. (a ++ to.Place i ∷ [], t)) (slice_get (element_trees es) i)))
step _ _ = None

-- both, or `None` where one of them is wrong
abbrev pub joined : {A : Type 0} → Option (List A) → Option (List A) → Option (List A)
joined (Some xs) (Some ys) = Some (xs ++ ys)
joined _ _ = None

-- what a step makes of a whole selection
abbrev pub step_all : PathStep → List Spot → Option (List Spot)
step_all p [] = Some []
step_all p (s ∷ ss) = joined (step p s) (step_all p ss)

-- what the steps of a path make of a selection, one after another
abbrev pub walk : List PathStep → List Spot → Option (List Spot)
walk [] ss = Some ss
walk (p ∷ ps) ss = option_and_then (walk ps) (step_all p ss)

-- an empty selection is wrong
abbrev pub unless_empty : {A : Type 0} → List A → Option (List A)
unless_empty [] = None
unless_empty (x ∷ xs) = Some (x ∷ xs)

-- what a path selects, in the order of the tree, or `None` where the path is wrong in it
abbrev pub select : List PathStep → Tree → Option (List Spot)
select path t = option_and_then unless_empty (walk path (([], t) ∷ []))
