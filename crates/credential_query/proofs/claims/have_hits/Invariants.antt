use Rattle.std.proofs.Common.{◌≡◌, drop}
use Rattle.credential_query.specs.Claims.{have_hits}
use Rattle.credential_query.proofs.claims.have_hits.Given as goal

abbrev pub invariant-loop-place : goal.invariant-loop-place
invariant-loop-place g l = have_hits l.claims (g.V.ClaimNode.tree l.view) (drop l.place-index l.places)
    ≡ have_hits l.claims (g.V.ClaimNode.tree l.view) l.places
