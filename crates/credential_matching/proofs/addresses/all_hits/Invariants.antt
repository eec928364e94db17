use Rattle.std.proofs.Common.{◌≡◌, take}
use Rattle.std.specs.List.{flat_map}
use Rattle.credential_matching.specs.Shown.{hits_at}
use Rattle.credential_matching.proofs.addresses.all_hits.Given as goal

abbrev pub invariant-loop-place : goal.invariant-loop-place
invariant-loop-place g l =
    l.found.items ≡ flat_map (hits_at l.claims (g.V.ClaimNode.tree l.view)) (take l.place-index l.places)
