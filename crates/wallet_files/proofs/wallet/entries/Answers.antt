use Rattle.std.proofs.Common.{◌≡◌, ◌+◌, ◌∷◌, sym, ap, ◌∙◌, subst}
use Rattle.std.proofs.lemmas.Result.{err_from_is_err_and}
use Rattle.base_forms.specs.Lines.{lines_of}
use Rattle.wallet_files.specs.Wallet.{bad_entry}
use Rattle.base_forms.specs.Lines.{IsBadLine}
use Rattle.wallet_files.proofs.wallet.entries.Goals as goal

pub returns-in_err-entry_at-clause-refused : goal.returns-in_err-entry_at-clause-refused
returns-in_err-entry_at-clause-refused c =
    let here = c.in_err-entry_at.ensures.refused (lines_of c.cut_line.result.1.now) in
    let same : bad_entry (c.loop-rest.number + 1)
    (c.cut_line.result.0.now ∷ lines_of c.cut_line.result.1.now) ≡ bad_entry 1
    (lines_of c.args.text.now) =
    ap (bad_entry (c.loop-rest.number + 1)) (sym c.cut_line.ensures.lines) ∙ c.loop-rest.invariant.bad in
    let p = err_from_is_err_and c.from_residual.result c.from_residual.ensures.1 in
    rw (p.1, p.2) (subst (λ bad. IsBadLine bad c.in_err-entry_at.field-0.0) same here)
