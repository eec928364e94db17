use Rattle.std.proofs.Common.{ap, ◌∙◌}
use Rattle.serde_json.specs.View.{view}
use Rattle.serde_json.specs.Written.{has_float}
use Rattle.sdjwt_issue.specs.code.Asking.{asked_of}
use Rattle.sdjwt_issue.proofs.Hidings.{is_hidden}
use Rattle.sdjwt_issue.proofs.Members.{all_fine}
use Rattle.sdjwt_issue.proofs.issuing.hide_claims.Goals as goal

pub hide-requires : goal.hide-requires
hide-requires c =
    ap has_float c.in_ok-payload.ensures ∙ (all_fine (asked_of c.args.spec.now) c.requires).whole

pub returns : goal.returns
returns c =
    is_hidden (asked_of c.args.spec.now) c.hide.result (view c.in_ok-payload.payload) c.deref.result.now
    c.in_ok-payload.ensures c.deref.ensures.value c.hide.ensures.value c.hide.ensures.disclosures
    c.hide.ensures.read c.hide.ensures.whole
