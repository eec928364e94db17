use Rattle.std.proofs.Common.{◌≡◌, sym, ap, ◌∙◌}
use Rattle.serde_json.specs.View.{members_view}
use Rattle.serde_json.specs.Data.{no_members}
use Rattle.sdjwt_hiding.proofs.PutAgain.{put_all, put_again}
use Rattle.sdjwt_hiding.proofs.WalkSteps.{entries_ascend}
use Rattle.sdjwt_issue.proofs.payload.claims_of.Goals as goal

pub returns : goal.returns
returns c =
    let up = entries_ascend c.args.claims.now.entries c.into_iter-name-iterator.ensures.into_iter_gives.5 in
    let end : members_view c.loop-name.name-iterator ≡ no_members =
    ap members_view c.in-None.ensures.steps.0 in
    ap (λ r. put_all r (members_view c.loop-name.members.entries)) (sym end) ∙ c.loop-name.invariant.2
    ∙ put_again (members_view c.args.claims.now.entries) up
