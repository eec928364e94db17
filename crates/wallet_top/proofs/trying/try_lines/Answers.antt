use Rattle.std.proofs.Common.{◌≡◌, ◌∙◌, ℕ, List, [], ◌∷◌, Option, refl, ap}
use Rattle.std.proofs.lemmas.Result.{err_from_is_err_and}
use Rattle.dcql_query.specs.Query.{Credential}
use Rattle.base_forms.specs.Lines.{lines_of}
use Rattle.runs.proofs.Trees.{runs_gives, runs_out}
use Rattle.wallet_top.specs.Try.{found}
use Rattle.wallet_files.specs.TreeLines.{match_lines, matching}
use Rattle.wallet_files.specs.QueryFile.{only}
use Rattle.wallet_top.specs.code.Matches.{ended}
use Rattle.wallet_files.proofs.CommandRuns.{runs_lines, runs_bad_line, runs_refused, runs_passed}
use Rattle.wallet_top.proofs.trying.try_lines.Goals as goal

ended_is : (numbers : List ℕ) → ended (match_lines numbers) ≡ found numbers
ended_is [] = refl
ended_is (number ∷ numbers) = refl

pub returns-in_err-query : goal.returns-in_err-query
returns-in_err-query c =
    let p = err_from_is_err_and c.from_residual.result c.from_residual.ensures.1 in
    rw (p.1, p.2) (λ w. runs_out _ w)

pub returns-in_err-refusal-in-Ok : goal.returns-in_err-refusal-in-Ok
returns-in_err-refusal-in-Ok c =
    let p = err_from_is_err_and c.from_residual-in_err-refusal-in-Ok.result
    c.from_residual-in_err-refusal-in-Ok.ensures.1 in
    rw (p.1, p.2) (λ w. runs_out _ w)

pub returns-in-Some : goal.returns-in-Some
returns-in-Some c = λ w. runs_lines c.args.trees.now _ _ w w _ c.in-Ok.ensures.passed
    (runs_refused _ c.in-Some.refusal _ w
    (rw (c.in-Some.is, c.in_ok-query.ensures) at c.in_ok-refusal-in-Ok.ensures))

pub returns-in_err-all_matches-in-None : goal.returns-in_err-all_matches-in-None
returns-in_err-all_matches-in-None c =
    let p = err_from_is_err_and c.from_residual-in_err-all_matches-in-None.result
    c.from_residual-in_err-all_matches-in-None.ensures.1 in
    rw (p.1, p.2) (λ w. runs_out _ w)

pub returns-in-Ok : goal.returns-in-Ok
returns-in-Ok c =
    let same = c.in_ok-all_matches-in-None.ensures ∙ ap ended c.in-Ok.ensures.found ∙ ended_is _
    ∙ ap (λ (o : Option Credential). found (matching o 0 (lines_of c.args.bytes.now))) (c.only.ensures
    ∙ ap only c.in_ok-query.ensures) in
    λ w. runs_lines c.args.trees.now _ _ w w _ c.in-Ok.ensures.passed
    (runs_passed _ _ w w _ (rw (c.in-None.is, c.in_ok-query.ensures) at c.in_ok-refusal-in-Ok.ensures)
    (runs_gives _ _ _ w same))

pub returns : goal.returns
returns c = λ w.
    runs_bad_line c.args.trees.now _ c.in-Err.error c.line_stop.result _ w c.in-Err.ensures.refused
    c.line_stop.ensures
