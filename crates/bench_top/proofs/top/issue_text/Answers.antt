use Rattle.std.proofs.lemmas.Result.{err_from_is_err_and}
use Rattle.program_steps.proofs.Stops.{runs_stop, runs_stopped}
use Rattle.runs.proofs.Trees.{runs_then, runs_out, runs_mapped, runs_gives}
use Rattle.bench_top.specs.Command.{refusal_line}
use Rattle.bench_top.specs.code.Endings.{early}
use Rattle.bench_top.proofs.top.issue_text.Goals as goal

pub returns-in_err-reply_with_last-in-Ok : goal.returns-in_err-reply_with_last-in-Ok
returns-in_err-reply_with_last-in-Ok g c =
    let p = err_from_is_err_and c.from_residual.result c.from_residual.ensures.1 in
    rw (p.1, p.2) (λ w. runs_then _ _ _ _ _ _ _
    (runs_mapped refusal_line _ _ _ _ (c.in-Ok.ensures.runs w)) (runs_out _ _))

pub returns-in_ok-reply_with_last-in-Ok : goal.returns-in_ok-reply_with_last-in-Ok
returns-in_ok-reply_with_last-in-Ok g c = λ w. runs_then _ _ _ _ _ _ _
    (runs_mapped refusal_line _ _ _ _ (c.in-Ok.ensures.runs w))
    (runs_gives _ _ _ _ c.in_ok-reply_with_last-in-Ok.ensures)

pub returns-in-Err : goal.returns-in-Err
returns-in-Err g c = λ w. runs_stop _ _ _ _ _
    (runs_stopped refusal_line _ _ _ (early c.in-Err.error) _ (c.in-Err.ensures.runs w) c.stop_by.ensures)
