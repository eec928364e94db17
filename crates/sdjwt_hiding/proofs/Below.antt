-- The marks of a whole value, and those one step further down an address.
use Rattle.std.proofs.Common.{◌≡◌, List, [], ◌∷◌, ◌++◌, ap, append_assoc, ◌∙◌}
use Rattle.claim_names.specs.declared.address.Step.{Step}
use Rattle.sdjwt_hiding.specs.Addresses.{number_in}
use Rattle.sdjwt_hiding.specs.Hiding.{under}
use Rattle.sdjwt_hiding.specs.code.Places.{place_in}
use Rattle.sdjwt_hiding.specs.code.Walk.{marks_at}
use Rattle.sdjwt_hiding.specs.declared.addresses.Places.{Places}

found_all : (places : Places) (hide : List (List Step))
    → ((a : List Step) → place_in places a ≡ number_in hide a) → marks_at places [] ≡ number_in hide
found_all places hide found = λ i a. found a i

pub at_root : (places : Places) (hide : List (List Step)) (root : List Step) → root ≡ []
    → ((a : List Step) → place_in places a ≡ number_in hide a) → marks_at places root ≡ number_in hide
at_root places hide root is found = ap (marks_at places) is ∙ found_all places hide found

pub one_step : (places : Places) (path : List Step) (s : Step)
    → marks_at places (path ++ s ∷ []) ≡ under s (marks_at places path)
one_step places path s = λ i a. ap (place_in places) (append_assoc path (s ∷ []) a) i
