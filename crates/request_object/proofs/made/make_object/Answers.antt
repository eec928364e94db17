use Rattle.std.proofs.lemmas.Result.{err_from_is_err_and}
use Rattle.serde_json.specs.View.{view}
use Rattle.runs.proofs.Trees.{runs_out}
use Rattle.request_object.specs.code.Asking.{asking}
use Rattle.request_object.proofs.ReadAsAsked.{query_valid, text_read}
use Rattle.request_object.proofs.made.make_object.Goals as goal

pub returns-in_err-payload-clause-runs : goal.returns-in_err-payload-clause-runs
returns-in_err-payload-clause-runs g c =
    let p = err_from_is_err_and c.from_residual.result c.from_residual.ensures.1 in
    rw (p.1, p.2) (λ alg is w. runs_out _ _)

pub returns-in_err-draft-clause-runs : goal.returns-in_err-draft-clause-runs
returns-in_err-draft-clause-runs g c =
    let p = err_from_is_err_and c.from_residual-in_err-draft.result c.from_residual-in_err-draft.ensures.1 in
    rw (p.1, p.2) (λ alg is w. runs_out _ _)

pub returns-clause-read : goal.returns-clause-read
returns-clause-read g c =
    text_read _ _ c.in-Some.alg c.args.key.now
    (asking c.args.asked (view c.args.query_json.now) c.args.state.now) _ _ c.sign_draft.result
    c.in_ok-payload.ensures (query_valid _ _ _ c.requires.asked) c.in-Some.ensures c.in_ok-draft.ensures.read
    c.sign_draft.ensures.signed
