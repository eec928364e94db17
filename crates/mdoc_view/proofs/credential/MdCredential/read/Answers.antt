use Rattle.std.proofs.Common.{sym, ap, ◌∙◌, subst}
use Rattle.std.proofs.lemmas.Result.{err_from_is_err_and}
use Rattle.cbor_core.specs.Seen.{span_of}
use Rattle.mdoc_view.specs.Errors.{IsRefusal}
use Rattle.mdoc_view.specs.Reading.{content_in}
use Rattle.mdoc_view.specs.Refusal.{refusal_of}
use Rattle.mdoc_view.proofs.ReadSteps.{past_cbor, cbor_refused}
use Rattle.mdoc_view.proofs.credential.MdCredential.read.Goals as goal

pub invariant_of-result : goal.invariant_of-result
invariant_of-result c =
    let span = span_of c.in-Ok.item in
    let found = c.in-Ok.ensures.found in
    record {
      sound = past_cbor c.args.bytes.now span found.0 found.1 ∙ c.in_ok-content-in-Ok.ensures.sound;
      read = ap content_in (sym found.1) ∙ c.in_ok-content-in-Ok.ensures.read;
    }

pub returns-in_err-content-in-Ok-clause-refused : goal.returns-in_err-content-in-Ok-clause-refused
returns-in_err-content-in-Ok-clause-refused c =
    let p = err_from_is_err_and c.from_residual.result c.from_residual.ensures.1 in
    let found = c.in-Ok.ensures.found in
    let whole = past_cbor c.args.bytes.now (span_of c.in-Ok.item) found.0 found.1 in
    rw (p.1, p.2)
    (subst (λ r. IsRefusal r c.in_err-content-in-Ok.field-0.0) (sym whole)
    c.in_err-content-in-Ok.ensures.refused)

pub returns-in-Err-clause-refused : goal.returns-in-Err-clause-refused
returns-in-Err-clause-refused c =
    subst (IsRefusal (refusal_of c.args.bytes.now)) (sym c.cbor_error.ensures)
    (cbor_refused c.args.bytes.now c.in-Err.error c.in-Err.ensures.refused)
