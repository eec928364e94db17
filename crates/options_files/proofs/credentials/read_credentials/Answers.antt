use Rattle.std.proofs.lemmas.Result.{err_from_is_err_and}
use Rattle.program_steps.proofs.Stops.{runs_stop}
use Rattle.runs.proofs.Trees.{runs_then}
use Rattle.options_files.proofs.credentials.read_credentials.Goals as goal

pub returns-in_err-entries : goal.returns-in_err-entries
returns-in_err-entries g c =
    let p = err_from_is_err_and c.from_residual.result c.from_residual.ensures.1 in
    rw (p.1, p.2) (λ w. runs_stop _ _ _ _ c.in_err-entries.field-0.0 (c.in_err-entries.ensures.runs w))

pub returns-in_err-contents : goal.returns-in_err-contents
returns-in_err-contents g c =
    let p = err_from_is_err_and c.from_residual-in_err-contents.result
    c.from_residual-in_err-contents.ensures.1 in
    rw (p.1, p.2) (λ w. runs_then _ _ _ _ _ _ _ (c.in_ok-entries.ensures.runs w)
    (rw c.deref.ensures.value at c.in_err-contents.ensures.runs w))

pub returns : goal.returns
returns g c = λ w. runs_then _ _ _ _ _ _ _ (c.in_ok-entries.ensures.runs w)
    (rw c.deref.ensures.value at c.in_ok-contents.ensures.runs w)
