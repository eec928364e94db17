use Rattle.std.proofs.lemmas.Result.{err_from_is_err_and}
use Rattle.runs.specs.World.{World}
use Rattle.bench_top.proofs.Endings.{runs_spec_refused}
use Rattle.bench_top.proofs.issuing.issue.Goals as goal

pub returns-in_err-spec-clause-runs : goal.returns-in_err-spec-clause-runs
returns-in_err-spec-clause-runs g c =
    let p = err_from_is_err_and c.from_residual.result c.from_residual.ensures.1 in
    rw (p.1, p.2) (λ w.
    let now : World = record w { device = g.K.KeyDevice.state c.args.device.now } in
    runs_spec_refused (g.K.KeyDevice.state c.args.device.now).held c.args.spec.now c.in_err-spec.field-0.0 now
    c.in_err-spec.ensures.refused)
