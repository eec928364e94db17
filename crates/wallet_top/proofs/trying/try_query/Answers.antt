use Rattle.std.proofs.lemmas.Result.{err_from_is_err_and}
use Rattle.program_steps.proofs.Stops.{runs_stop}
use Rattle.runs.proofs.Trees.{runs_then}
use Rattle.wallet_top.proofs.trying.try_query.Goals as goal

pub returns-in_err-value : goal.returns-in_err-value
returns-in_err-value g c =
    let p = err_from_is_err_and c.from_residual.result c.from_residual.ensures.1 in
    rw (p.1, p.2) (λ w. runs_stop _ _ _ _ c.in_err-value.field-0.0 (c.in_err-value.ensures w))

pub returns-in_err-bytes : goal.returns-in_err-bytes
returns-in_err-bytes g c =
    let p = err_from_is_err_and c.from_residual-in_err-bytes.result c.from_residual-in_err-bytes.ensures.1 in
    rw (p.1, p.2) (λ w. runs_then _ _ _ _ _ _ _ (c.in_ok-value.ensures w)
    (runs_stop _ _ _ _ c.in_err-bytes.field-0.0 (c.in_err-bytes.ensures w)))

pub returns : goal.returns
returns g c = λ w. runs_then _ _ _ _ _ _ _ (c.in_ok-value.ensures w) (runs_then _ _ _ _ _ _ _
    (c.in_ok-bytes.ensures w) (rw c.deref.ensures.value at c.try_lines.ensures _))
