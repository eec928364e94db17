use Rattle.std.proofs.Common.{◌∙◌, ap, ap₂, sym, subst}
use Rattle.std.proofs.lemmas.List.Filters.{dedup_is}
use Rattle.std.specs.List.{flat_map}
use Rattle.credential_matching.specs.Shown.{IsShown, hits_at, in_order}
use Rattle.credential_matching.proofs.Ordered.{dedup-in_order, shown-IsShown}
use Rattle.credential_matching.proofs.addresses.shown_for.Goals as goal

pub returns-clause-exact : goal.returns-clause-exact
returns-clause-exact g c =
    let t = g.V.ClaimNode.tree c.args.view in
    dedup_is _ _ _ c.dedup.ensures.filtered
    ∙ dedup-in_order _ _ c.sort_unstable.ensures.permutation c.sort_unstable.ensures.sorted
    ∙ ap in_order c.in_ok-found.ensures
    ∙ ap₂ (λ claims places. in_order (flat_map (hits_at claims t) places)) c.claims.ensures.claims
    c.set.ensures

pub returns-clause-meaning : goal.returns-clause-meaning
returns-clause-meaning g c =
    let t = g.V.ClaimNode.tree c.args.view in
    subst (IsShown c.args.query.now c.args.set t) (sym (returns-clause-exact g c))
    (shown-IsShown c.args.query.now c.args.set t)
