use Rattle.std.proofs.Common.{rules}
use Rattle.std.proofs.lemmas.Result.{err_from_is_err_and}
use Rattle.program_steps.proofs.Stops.{runs_stop}
use Rattle.runs.proofs.Trees.{runs_then}
use Rattle.options_files.proofs.FileRuns.{runs_text, runs_no_text}
use Rattle.options_files.proofs.request.read_request.Goals as goal

pub returns-in_err-bytes : goal.returns-in_err-bytes
returns-in_err-bytes g c =
    let p = err_from_is_err_and c.from_residual.result c.from_residual.ensures.1 in
    rw (p.1, p.2) (λ w. runs_stop _ _ _ _ c.in_err-bytes.field-0.0 (c.in_err-bytes.ensures w))

pub returns-in-Some : goal.returns-in-Some
returns-in-Some g c = λ w. runs_then _ _ _ _ _ _ _ (c.in_ok-bytes.ensures w)
    (runs_text c.args.name.now _ _ _ (search rules))

pub returns-in-None : goal.returns-in-None
returns-in-None g c = λ w. runs_then _ _ _ _ _ _ _ (c.in_ok-bytes.ensures w)
    (runs_no_text c.args.name.now _ c.line_stop.result _ (search rules) c.line_stop.ensures)
