use Rattle.std.proofs.lemmas.Result.{err_from_is_err_and}
use Rattle.program_steps.proofs.Stops.{runs_stop}
use Rattle.runs.proofs.Trees.{runs_then}
use Rattle.options_files.proofs.FileRuns.{runs_held, runs_refused}
use Rattle.options_files.proofs.clients.read_clients.Goals as goal

pub returns-in_err-bytes : goal.returns-in_err-bytes
returns-in_err-bytes g c =
    let p = err_from_is_err_and c.from_residual.result c.from_residual.ensures.1 in
    rw (p.1, p.2) (λ w. runs_stop _ _ _ _ c.in_err-bytes.field-0.0 (c.in_err-bytes.ensures w))

pub returns-in-Ok : goal.returns-in-Ok
returns-in-Ok g c = λ w. runs_then _ _ _ _ _ _ _ (c.in_ok-bytes.ensures w)
    (runs_held c.args.name.now _ _ _ (rw c.deref.ensures.value at c.in-Ok.ensures.clients))

pub returns : goal.returns
returns g c = λ w. runs_then _ _ _ _ _ _ _ (c.in_ok-bytes.ensures w)
    (runs_refused c.args.name.now _ c.in-Err.error c.line_stop.result _
    (rw c.deref.ensures.value at c.in-Err.ensures.refused) c.line_stop.ensures)
