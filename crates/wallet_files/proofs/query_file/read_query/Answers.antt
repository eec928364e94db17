use Rattle.std.proofs.Common.{rules}
use Rattle.std.proofs.lemmas.Result.{err_from_is_err_and}
use Rattle.program_steps.proofs.Stops.{runs_stop}
use Rattle.runs.proofs.Trees.{runs_then, runs_out}
use Rattle.wallet_files.proofs.CommandRuns.{runs_json, runs_no_json}
use Rattle.wallet_files.proofs.query_file.read_query.Goals as goal

pub returns-in_err-bytes : goal.returns-in_err-bytes
returns-in_err-bytes g c =
    let p = err_from_is_err_and c.from_residual.result c.from_residual.ensures.1 in
    rw (p.1, p.2) (λ w. runs_stop _ _ _ _ c.in_err-bytes.field-0.0 (c.in_err-bytes.ensures w))

pub returns-in_err-value : goal.returns-in_err-value
returns-in_err-value g c =
    let p = err_from_is_err_and c.from_residual-in_err-value.result c.from_residual-in_err-value.ensures.1 in
    rw (p.1, p.2) (λ w. runs_then _ _ _ _ _ _ _ (c.in_ok-bytes.ensures w) (runs_out _ _))

pub returns-in-Some : goal.returns-in-Some
returns-in-Some g c = λ w. runs_then _ _ _ _ _ _ _ (c.in_ok-bytes.ensures w) (runs_json c.args.name.now _ _ _
    (search rules))

pub returns-in_err-file_refused-in-None : goal.returns-in_err-file_refused-in-None
returns-in_err-file_refused-in-None g c =
    let p = err_from_is_err_and c.from_residual-in_err-file_refused-in-None.result
    c.from_residual-in_err-file_refused-in-None.ensures.1 in
    rw (p.1, p.2) (λ w. runs_then _ _ _ _ _ _ _ (c.in_ok-bytes.ensures w) (runs_out _ _))

pub returns : goal.returns
returns g c = λ w. runs_then _ _ _ _ _ _ _ (c.in_ok-bytes.ensures w) (runs_no_json c.args.name.now _ _ _
    (search rules) c.in_ok-file_refused-in-None.ensures)
