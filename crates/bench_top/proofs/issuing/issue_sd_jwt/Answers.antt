use Rattle.std.proofs.Common.{string_bytes}
use Rattle.std.proofs.lemmas.Result.{err_from_is_err_and}
use Rattle.runs.specs.World.{World}
use Rattle.sdjwt_issue.specs.code.Asking.{asked_of}
use Rattle.bench_top.proofs.Endings.{runs_no_sdjwt, runs_sdjwt}
use Rattle.bench_top.proofs.issuing.issue_sd_jwt.Goals as goal

pub returns-in_err-issue-clause-runs : goal.returns-in_err-issue-clause-runs
returns-in_err-issue-clause-runs g c =
    let p = err_from_is_err_and c.from_residual.result c.from_residual.ensures.1 in
    rw (p.1, p.2) (λ w.
    let before : World = record w { device = g.K.KeyDevice.state c.args.device.now } in
    let after : World = record w { device = g.K.KeyDevice.state c.issue.new.device } in
    runs_no_sdjwt (g.K.KeyDevice.state c.args.device.now).held (asked_of c.args.spec.now) before after
    c.in_err-issue.field-0.0 (c.in_err-issue.ensures.runs w))

pub returns-clause-runs : goal.returns-clause-runs
returns-clause-runs g c = λ w.
    let before : World = record w { device = g.K.KeyDevice.state c.args.device.now } in
    let after : World = record w { device = g.K.KeyDevice.state c.issue.new.device } in
    runs_sdjwt (g.K.KeyDevice.state c.args.device.now).held (asked_of c.args.spec.now) before after
    (string_bytes c.in_ok-issue.field-0) (c.in_ok-issue.ensures.runs w)
