use Rattle.std.proofs.Common.{rules, ◌≡◌, ◌<◌, ◌+◌, ◌-◌, ◌||◌, ℕ, Bool, false, sym, ap, ◌∙◌, arith, length}
use Rattle.std.specs.List.{range_with_len}
use Rattle.claim_tree.specs.Tree.{Tree}
use Rattle.dcql_query.specs.Query.{Credential}
use Rattle.dcql_query.specs.Claims.{claims_met}
use Rattle.credential_query.proofs.Ranges.{range_step}
use Rattle.wallet_files.specs.Met.{is_some_met}
use Rattle.wallet_files.proofs.matching.is_met.Goals as goal

-- the first of these claim sets is not met
past : (q : Credential) (t : Tree) (n i : ℕ) → i < n → claims_met q i t ≡ false
    → is_some_met q t (range_with_len (i + 1) (n - (i + 1))) ≡ is_some_met q t (range_with_len i (n - i))
past q t n i below unmet =
    sym (ap (is_some_met q t) (range_step i n below)
    ∙ ap (λ (b : Bool). b || is_some_met q t (range_with_len (i + 1) (n - (i + 1)))) unmet)

pub loop-set-preserved : goal.loop-set-preserved
loop-set-preserved g c =
    past c.args.query.now (g.V.ClaimNode.tree c.args.view) (length c.args.query.now.sets) c.loop-set.set
    (omega (arith, c.loop-set-test.true, c.set_count-set-end.ensures.count)) (sym c.claims_met.ensures
    ∙ c.if-claims_met.false)
    ∙ c.loop-set.invariant

pub loop-set-init : goal.loop-set-init
loop-set-init g c = search rules
