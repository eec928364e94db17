use Rattle.std.proofs.Common.{ℕ, ◌<◌}
use Rattle.claim_tree.specs.Credential.{Credential}
use Rattle.credential_matching.specs.Meets.{Describes, Meets}
use Rattle.credential_matching.proofs.matching.meets_some.Given as goal

abbrev pub invariant-loop-set : goal.invariant-loop-set
invariant-loop-set g l =
    (c : Credential) → Describes l.facts (g.V.ClaimNode.tree l.view) c → (k : ℕ) → k < l.set
    → Meets l.query k c → ⊥
