use Rattle.std.proofs.Common.{rules}
use Rattle.std.proofs.lemmas.Result.{err_from_is_err_and}
use Rattle.program_steps.proofs.Stops.{runs_stop}
use Rattle.runs.specs.World.{World}
use Rattle.runs.proofs.Trees.{runs_then, runs_out}
use Rattle.bench_top.proofs.Steps.{runs_text, runs_no_text}
use Rattle.bench_top.proofs.top.issue_file.Goals as goal

pub returns-in_err-bytes : goal.returns-in_err-bytes
returns-in_err-bytes g c =
    let p = err_from_is_err_and c.from_residual.result c.from_residual.ensures.1 in
    rw (p.1, p.2) (λ w. runs_stop _ _ _ _ c.in_err-bytes.field-0.0
    (c.in_err-bytes.ensures (record w { device = g.K.KeyDevice.state c.args.device.now })))

pub returns-in-Some : goal.returns-in-Some
returns-in-Some g c = λ w. runs_then _ _ _ _ _ _ _
    (c.in_ok-bytes.ensures (record w { device = g.K.KeyDevice.state c.args.device.now }))
    (runs_text _ c.args.name.now _ _ _ _ _ (search rules)
    (c.issue_text.ensures (record w { store = g.S.Store.state c.read_file.new.store })))

pub returns-in_err-file_refused-in-None : goal.returns-in_err-file_refused-in-None
returns-in_err-file_refused-in-None g c =
    let p = err_from_is_err_and c.from_residual-in_err-file_refused-in-None.result
    c.from_residual-in_err-file_refused-in-None.ensures.1 in
    rw (p.1, p.2) (λ w. runs_then _ _ _ _ _ _ _
    (c.in_ok-bytes.ensures (record w { device = g.K.KeyDevice.state c.args.device.now })) (runs_out _ _))

pub returns : goal.returns
returns g c = λ w. runs_then _ _ _ _ _ _ _
    (c.in_ok-bytes.ensures (record w { device = g.K.KeyDevice.state c.args.device.now }))
    (runs_no_text _ c.args.name.now _ _ _ (search rules) c.in_ok-file_refused-in-None.ensures)
