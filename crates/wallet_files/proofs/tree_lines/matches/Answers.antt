use Rattle.std.proofs.Common.{◌≡◌, ◌+◌, ◌∷◌, sym, ap, ◌∙◌, subst}
use Rattle.std.proofs.lemmas.Result.{err_from_is_err_and}
use Rattle.base_forms.specs.Lines.{lines_of}
use Rattle.wallet_files.specs.TreeLines.{bad_line}
use Rattle.base_forms.specs.Lines.{IsBadLine}
use Rattle.wallet_files.proofs.tree_lines.matches.Goals as goal

pub returns-in_err-is_match-clause-refused : goal.returns-in_err-is_match-clause-refused
returns-in_err-is_match-clause-refused c =
    let here = c.in_err-is_match.ensures.refused (lines_of c.cut_line.result.1.now) in
    let same : bad_line (c.loop-rest.number + 1)
    (c.cut_line.result.0.now ∷ lines_of c.cut_line.result.1.now) ≡ bad_line 1 (lines_of c.args.text.now) =
    ap (bad_line (c.loop-rest.number + 1)) (sym c.cut_line.ensures.lines) ∙ c.loop-rest.invariant.bad in
    let p = err_from_is_err_and c.from_residual.result c.from_residual.ensures.1 in
    rw (p.1, p.2) (subst (λ bad. IsBadLine bad c.in_err-is_match.field-0.0) same here)
