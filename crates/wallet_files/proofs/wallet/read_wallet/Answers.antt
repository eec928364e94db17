use Rattle.std.proofs.lemmas.Result.{err_from_is_err_and}
use Rattle.program_steps.proofs.Stops.{runs_stop}
use Rattle.runs.proofs.Trees.{runs_then, runs_gives}
use Rattle.wallet_files.proofs.CommandRuns.{runs_lines, runs_bad_line}
use Rattle.wallet_files.proofs.wallet.read_wallet.Goals as goal

pub returns-in_err-bytes-clause-runs : goal.returns-in_err-bytes-clause-runs
returns-in_err-bytes-clause-runs g c =
    let p = err_from_is_err_and c.from_residual.result c.from_residual.ensures.1 in
    rw (p.1, p.2) (λ w. runs_stop _ _ _ _ c.in_err-bytes.field-0.0 (c.in_err-bytes.ensures w))

pub returns-in-Ok-clause-runs : goal.returns-in-Ok-clause-runs
returns-in-Ok-clause-runs g c = λ w. runs_then _ _ _ _ _ _ _ (c.in_ok-bytes.ensures w)
    (runs_lines c.args.name.now _ _ _ _ _ (rw c.deref.ensures.value at c.in-Ok.ensures.passed)
    (runs_gives _ _ _ _ (rw c.deref.ensures.value at c.in-Ok.ensures.entries)))

pub returns-clause-runs : goal.returns-clause-runs
returns-clause-runs g c = λ w. runs_then _ _ _ _ _ _ _ (c.in_ok-bytes.ensures w)
    (runs_bad_line c.args.name.now _ c.in-Err.error c.line_stop.result _ _
    (rw c.deref.ensures.value at c.in-Err.ensures.refused) c.line_stop.ensures)
