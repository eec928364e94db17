use Rattle.std.proofs.Common.{ap, ◌∙◌, string_bytes}
use Rattle.std.proofs.lemmas.Result.{err_from_is_err_and}
use Rattle.base_forms.specs.Url64.{url64_of}
use Rattle.runs.specs.World.{World}
use Rattle.mdoc_issue.specs.code.Asking.{asked_of}
use Rattle.bench_top.proofs.Endings.{runs_no_document, runs_no_text, runs_document}
use Rattle.bench_top.proofs.issuing.issue_document.Goals as goal

pub returns-in_err-document-clause-runs : goal.returns-in_err-document-clause-runs
returns-in_err-document-clause-runs g c =
    let p = err_from_is_err_and c.from_residual.result c.from_residual.ensures.1 in
    rw (p.1, p.2) (λ w.
    let before : World = record w { device = g.K.KeyDevice.state c.args.device.now } in
    let after : World = record w { device = g.K.KeyDevice.state c.issue.new.device } in
    runs_no_document (g.K.KeyDevice.state c.args.device.now).held (asked_of c.args.spec.now) before after
    c.in_err-document.field-0.0 (c.in_err-document.ensures.runs w))

pub returns-in_err-to_url64-clause-runs : goal.returns-in_err-to_url64-clause-runs
returns-in_err-to_url64-clause-runs g c =
    let p = err_from_is_err_and c.from_residual-in_err-to_url64.result
    c.from_residual-in_err-to_url64.ensures.1 in
    rw (p.1, p.2) (λ w.
    let before : World = record w { device = g.K.KeyDevice.state c.args.device.now } in
    let after : World = record w { device = g.K.KeyDevice.state c.issue.new.device } in
    runs_no_text (g.K.KeyDevice.state c.args.device.now).held (asked_of c.args.spec.now) before after
    c.in_ok-document.document.items (c.in_ok-document.ensures.runs w))

pub returns-clause-runs : goal.returns-clause-runs
returns-clause-runs g c = λ w.
    let before : World = record w { device = g.K.KeyDevice.state c.args.device.now } in
    let after : World = record w { device = g.K.KeyDevice.state c.issue.new.device } in
    runs_document (g.K.KeyDevice.state c.args.device.now).held (asked_of c.args.spec.now) before after
    c.in_ok-document.document.items (string_bytes c.in_ok-to_url64.field-0)
    (c.in_ok-document.ensures.runs w) (c.in_ok-to_url64.ensures ∙ ap url64_of c.deref.ensures.value)
