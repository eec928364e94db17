use Rattle.std.proofs.lemmas.Result.{err_from_is_err_and}
use Rattle.runs.proofs.Trees.{runs_gives, runs_out}
use Rattle.wallet_files.proofs.CommandRuns.{runs_refused, runs_passed}
use Rattle.wallet_top.proofs.listing.list_answer.Goals as goal

pub returns-in_err-refusal : goal.returns-in_err-refusal
returns-in_err-refusal c =
    let p = err_from_is_err_and c.from_residual.result c.from_residual.ensures.1 in
    rw (p.1, p.2) (λ w. runs_out _ w)

pub returns-in-Some : goal.returns-in-Some
returns-in-Some c = λ w. runs_refused _ c.in-Some.refusal _ w (rw c.in-Some.is at c.in_ok-refusal.ensures)

pub returns-in_err-listed-in-None : goal.returns-in_err-listed-in-None
returns-in_err-listed-in-None c =
    let p = err_from_is_err_and c.from_residual-in_err-listed-in-None.result
    c.from_residual-in_err-listed-in-None.ensures.1 in
    rw (p.1, p.2) (λ w. runs_out _ w)

pub returns-in_ok-listed-in-None : goal.returns-in_ok-listed-in-None
returns-in_ok-listed-in-None c = λ w. runs_passed _ _ w w _ (rw c.in-None.is at c.in_ok-refusal.ensures)
    (runs_gives _ _ _ w c.in_ok-listed-in-None.ensures)
