use Rattle.std.proofs.Common.{◌++◌, [], ◌∷◌, refl}
use Rattle.std.proofs.lemmas.Result.{err_from_is_err_and}
use Rattle.std.specs.Option.{option_copied}
use Rattle.program_steps.proofs.Stops.{is_early}
use Rattle.program_steps.specs.code.Endings.{early}
use Rattle.runs.proofs.Each.{one_more, one_stop, none_left}
use Rattle.runs.proofs.Trees.{runs_out}
use Rattle.runs.specs.Runs.{out_of_memory}
use Rattle.wallet_files.specs.CredentialFile.{read_credential}
use Rattle.wallet_files.specs.code.Entries.{meant}
use Rattle.wallet_top.proofs.listing.read_credentials.Goals as goal

pub loop-entry-preserved : goal.loop-entry-preserved
loop-entry-preserved g c = record {
  runs = λ w.
      one_more meant
      (read_credential (option_copied c.args.wanted)) c.args.entries.now c.loop-entry.entry-index
      c.entry-item.result c.loop-entry.findings.items _ c.in_ok-finding.finding _ _ _
      c.loop-entry-test.true c.entry-item.is c.in_ok-push.ensures.items (c.loop-entry.invariant.runs w)
      (c.in_ok-finding.ensures w);
}

pub returns-in_err-finding : goal.returns-in_err-finding
returns-in_err-finding g c =
    let p = err_from_is_err_and c.from_residual.result c.from_residual.ensures.1 in
    rw (p.1, p.2) (λ w.
    one_stop meant
    (read_credential (option_copied c.args.wanted)) c.args.entries.now c.loop-entry.entry-index
    c.entry-item.result c.loop-entry.findings.items _ _ _
    (early c.in_err-finding.field-0.0)
    (early c.in_err-finding.field-0.0) c.loop-entry-test.true c.entry-item.is
    (c.loop-entry.invariant.runs w) (c.in_err-finding.ensures w)
    (is_early _ _ c.in_err-finding.field-0.0))

pub returns : goal.returns
returns g c = λ w.
    none_left meant
    (read_credential (option_copied c.args.wanted)) c.args.entries.now c.loop-entry.entry-index
    c.loop-entry.findings.items _ _
    c.loop-entry-test.false (c.loop-entry.invariant.runs w)

pub returns-in_err-push : goal.returns-in_err-push
returns-in_err-push g c =
    let p = err_from_is_err_and c.from_residual-in_err-push.result c.from_residual-in_err-push.ensures.1 in
    rw (p.1, p.2) (λ w.
    one_more meant
    (read_credential (option_copied c.args.wanted)) c.args.entries.now c.loop-entry.entry-index
    c.entry-item.result c.loop-entry.findings.items
    (c.loop-entry.findings.items ++ c.in_ok-finding.finding ∷ []) c.in_ok-finding.finding _ _ _
    c.loop-entry-test.true c.entry-item.is refl (c.loop-entry.invariant.runs w)
    (c.in_ok-finding.ensures w) _ out_of_memory (runs_out _ _))
