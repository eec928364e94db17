use Rattle.std.proofs.lemmas.Result.{err_from_is_err_and}
use Rattle.program_steps.proofs.Stops.{runs_stop}
use Rattle.runs.proofs.Trees.{runs_then, runs_out}
use Rattle.wallet_top.proofs.listing.list_credentials.Goals as goal

pub returns-in_err-value : goal.returns-in_err-value
returns-in_err-value g c =
    let p = err_from_is_err_and c.from_residual.result c.from_residual.ensures.1 in
    rw (p.1, p.2) (λ w. runs_stop _ _ _ _ c.in_err-value.field-0.0 (c.in_err-value.ensures w))

pub returns-in_err-entries : goal.returns-in_err-entries
returns-in_err-entries g c =
    let p = err_from_is_err_and c.from_residual-in_err-entries.result c.from_residual-in_err-entries.ensures.1
    in
    rw (p.1, p.2) (λ w. runs_then _ _ _ _ _ _ _ (c.in_ok-value.ensures w)
    (runs_stop _ _ _ _ c.in_err-entries.field-0.0 (c.in_err-entries.ensures.runs w)))

pub returns-in_err-query : goal.returns-in_err-query
returns-in_err-query g c =
    let p = err_from_is_err_and c.from_residual-in_err-query.result c.from_residual-in_err-query.ensures.1 in
    rw (p.1, p.2) (λ w. runs_then _ _ _ _ _ _ _ (c.in_ok-value.ensures w) (runs_then _ _ _ _ _ _ _
    (c.in_ok-entries.ensures.runs w) (runs_out _ _)))

pub returns-in_err-findings : goal.returns-in_err-findings
returns-in_err-findings g c =
    let p = err_from_is_err_and c.from_residual-in_err-findings.result
    c.from_residual-in_err-findings.ensures.1 in
    rw (p.1, p.2) (λ w. runs_then _ _ _ _ _ _ _ (c.in_ok-value.ensures w) (runs_then _ _ _ _ _ _ _
    (c.in_ok-entries.ensures.runs w)
    (runs_stop _ _ _ _ c.in_err-findings.field-0.0
    (rw (c.deref.ensures.value, c.only.ensures, c.in_ok-query.ensures) at c.in_err-findings.ensures w))))

pub returns : goal.returns
returns g c = λ w. runs_then _ _ _ _ _ _ _ (c.in_ok-value.ensures w) (runs_then _ _ _ _ _ _ _
    (c.in_ok-entries.ensures.runs w)
    (runs_then _ _ _ _ _ _ _
    (rw (c.deref.ensures.value, c.only.ensures, c.in_ok-query.ensures) at c.in_ok-findings.ensures w)
    (rw (c.deref-2.ensures.value, c.in_ok-query.ensures) at c.list_answer.ensures _)))
