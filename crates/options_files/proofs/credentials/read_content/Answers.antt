use Rattle.std.proofs.lemmas.Result.{err_from_is_err_and}
use Rattle.program_steps.proofs.Stops.{runs_stop}
use Rattle.runs.proofs.Trees.{runs_then, runs_gives, runs_out}
use Rattle.options_files.proofs.credentials.read_content.Goals as goal

pub returns-in_err-bytes : goal.returns-in_err-bytes
returns-in_err-bytes g c =
    let p = err_from_is_err_and c.from_residual.result c.from_residual.ensures.1 in
    rw (p.1, p.2) (λ w. runs_stop _ _ _ _ c.in_err-bytes.field-0.0
    (rw c.as_str.ensures.value at c.in_err-bytes.ensures w))

pub returns-in_err-content_of : goal.returns-in_err-content_of
returns-in_err-content_of g c =
    let p = err_from_is_err_and c.from_residual-in_err-content_of.result
    c.from_residual-in_err-content_of.ensures.1 in
    rw (p.1, p.2) (λ w. runs_then _ _ _ _ _ _ _ (rw c.as_str.ensures.value at c.in_ok-bytes.ensures w)
    (runs_out _ _))

pub returns : goal.returns
returns g c = λ w. runs_then _ _ _ _ _ _ _ (rw c.as_str.ensures.value at c.in_ok-bytes.ensures w)
    (runs_gives _ _ _ _ c.in_ok-content_of.ensures)
