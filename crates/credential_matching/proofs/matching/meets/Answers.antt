use Rattle.std.proofs.Common.{◌≡◌, ℕ, Bool, ◌↔◌, IsTrue, sym, ap, ◌∙◌}
use Rattle.claim_tree.specs.Tree.{Tree}
use Rattle.claim_tree.specs.Credential.{Credential}
use Rattle.credential_query.specs.Credential.{Credential as CredentialQuery}
use Rattle.credential_query.specs.Claims.{claims_met}
use Rattle.credential_matching.specs.Meets.{Allows, Meets}
use Rattle.credential_matching.proofs.matching.meets.Goals as goal

-- where a credential is allowed, the claims decide
by_claims : (q : CredentialQuery) (s : ℕ) (t : Tree) (c : Credential) (met : Bool) → Allows q c → t ≡ c.tree
    → met ≡ claims_met q s t → IsTrue met ↔ Meets q s c
by_claims q s t c met allowed same is =
    let at : met ≡ claims_met q s c.tree = is ∙ ap (claims_met q s) same in
    (λ h. record { allowed = allowed; claims = sym at ∙ h }, λ m. at ∙ m.claims)

pub returns-then-allows : goal.returns-then-allows
returns-then-allows g c =
    λ credential told.
    by_claims c.args.query.now c.args.set (g.V.ClaimNode.tree c.args.view) credential c.claims_met.result
    ((c.allows.ensures (g.V.ClaimNode.tree c.args.view) credential told).0 c.if-allows.true) told.tree
    c.claims_met.ensures
