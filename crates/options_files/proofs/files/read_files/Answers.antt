use Rattle.std.proofs.Common.{refl}
use Rattle.std.proofs.lemmas.Result.{err_from_is_err_and}
use Rattle.program_steps.proofs.Stops.{runs_stop}
use Rattle.runs.proofs.Trees.{runs_then, runs_gives}
use Rattle.options_files.proofs.files.read_files.Goals as goal

pub returns-in_err-request : goal.returns-in_err-request
returns-in_err-request g c =
    let p = err_from_is_err_and c.from_residual.result c.from_residual.ensures.1 in
    rw (p.1, p.2) (λ w. runs_stop _ _ _ _ c.in_err-request.field-0.0 (c.in_err-request.ensures w))

pub returns-in_err-clients : goal.returns-in_err-clients
returns-in_err-clients g c =
    let p = err_from_is_err_and c.from_residual-in_err-clients.result c.from_residual-in_err-clients.ensures.1
    in
    rw (p.1, p.2) (λ w. runs_then _ _ _ _ _ _ _ (c.in_ok-request.ensures w)
    (runs_stop _ _ _ _ c.in_err-clients.field-0.0 (c.in_err-clients.ensures w)))

pub returns-in_err-credentials : goal.returns-in_err-credentials
returns-in_err-credentials g c =
    let p = err_from_is_err_and c.from_residual-in_err-credentials.result
    c.from_residual-in_err-credentials.ensures.1 in
    rw (p.1, p.2) (λ w. runs_then _ _ _ _ _ _ _ (c.in_ok-request.ensures w) (runs_then _ _ _ _ _ _ _
    (c.in_ok-clients.ensures w)
    (runs_stop _ _ _ _ c.in_err-credentials.field-0.0 (c.in_err-credentials.ensures w))))

pub returns : goal.returns
returns g c = λ w. runs_then _ _ _ _ _ _ _ (c.in_ok-request.ensures w) (runs_then _ _ _ _ _ _ _
    (c.in_ok-clients.ensures w)
    (runs_then _ _ _ _ _ _ _ (c.in_ok-credentials.ensures w) (runs_gives _ _ _ _ refl)))
