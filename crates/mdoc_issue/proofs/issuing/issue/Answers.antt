use Rattle.std.proofs.Common.{◌≡◌, ◌∙◌, ℕ, List, sym, ap, subst, arith}
use Rattle.key_device.specs.Device.{IsGenuine}
use Rattle.std.proofs.lemmas.Result.{err_from_is_err_and}
use Rattle.cose_sign1.specs.Sign1.{signed_bytes}
use Rattle.cose_sign1.specs.Writing.{protected_bytes}
use Rattle.runs.proofs.Trees.{runs_out}
use Rattle.mdoc_issue.specs.Issued.{message_for, document_for}
use Rattle.mdoc_issue.specs.code.Asking.{asked_of}
use Rattle.mdoc_issue.proofs.Signing.{is_issued, runs_missing, runs_made, runs_unmade}
use Rattle.mdoc_issue.proofs.Signing.{runs_unsigned}
use Rattle.mdoc_issue.proofs.issuing.issue.Goals as goal

pub returns-in_default-clause-runs : goal.returns-in_default-clause-runs
returns-in_default-clause-runs g c = λ w.
    runs_missing (asked_of c.args.spec.now) _ (record w { device = g.K.KeyDevice.state c.args.device.now })
    (sym c.holds.ensures ∙ c.in_default.is)

pub returns-in_err-unsigned-clause-runs : goal.returns-in_err-unsigned-clause-runs
returns-in_err-unsigned-clause-runs g c =
    let p = err_from_is_err_and c.from_residual.result c.from_residual.ensures.1 in
    rw (p.1, p.2) (λ w. runs_out _ _)

pub returns-in_err-message-clause-runs : goal.returns-in_err-message-clause-runs
returns-in_err-message-clause-runs g c =
    let p = err_from_is_err_and c.from_residual-in_err-message.result
    c.from_residual-in_err-message.ensures.1 in
    rw (p.1, p.2) (λ w. runs_out _ _)

pub returns-in_err-signature-clause-runs : goal.returns-in_err-signature-clause-runs
returns-in_err-signature-clause-runs g c =
    let p = err_from_is_err_and c.from_residual-in_err-signature.result
    c.from_residual-in_err-signature.ensures.1 in
    let message = c.deref-2.ensures.value ∙ c.in_ok-message.ensures
    ∙ ap (signed_bytes (protected_bytes c.in-Some.alg)) (c.deref.ensures.value
    ∙ c.in_ok-unsigned.ensures.payload) in
    rw (p.1, p.2) (λ w. runs_unsigned (asked_of c.args.spec.now) _ c.in-Some.alg
    (sym c.holds.ensures ∙ c.in-Some.is) c.deref-2.result.now message _ _ w c.in_err-signature.field-0.0
    c.in_err-signature.ensures.signed)

pub returns-in_err-document-clause-runs : goal.returns-in_err-document-clause-runs
returns-in_err-document-clause-runs g c =
    let p = err_from_is_err_and c.from_residual-in_err-document.result
    c.from_residual-in_err-document.ensures.1 in
    let message = c.deref-2.ensures.value ∙ c.in_ok-message.ensures
    ∙ ap (signed_bytes (protected_bytes c.in-Some.alg)) (c.deref.ensures.value
    ∙ c.in_ok-unsigned.ensures.payload) in
    rw (p.1, p.2) (λ w. runs_unmade (asked_of c.args.spec.now) _ c.in-Some.alg
    (sym c.holds.ensures ∙ c.in-Some.is) c.deref-2.result.now message _ _ w c.in_ok-signature.signature.items
    c.in_ok-signature.ensures.signed)

pub returns-clause-runs : goal.returns-clause-runs
returns-clause-runs g c = λ w.
    let message = c.deref-2.ensures.value ∙ c.in_ok-message.ensures
    ∙ ap (signed_bytes (protected_bytes c.in-Some.alg)) (c.deref.ensures.value
    ∙ c.in_ok-unsigned.ensures.payload) in
    runs_made (asked_of c.args.spec.now) _ c.in-Some.alg (sym c.holds.ensures ∙ c.in-Some.is)
    c.deref-2.result.now message _ _ w c.in_ok-signature.signature.items _ c.in_ok-signature.ensures.signed
    (c.in_ok-document.ensures
    ∙ ap (λ (s : List ℕ). document_for (asked_of c.args.spec.now) c.in-Some.alg s) c.deref-3.ensures.value)

pub returns-clause-issued : goal.returns-clause-issued
returns-clause-issued g c =
    let s = asked_of c.args.spec.now in
    let signature = c.in_ok-signature.signature.items in
    let message : c.deref-2.result.now ≡ message_for (asked_of c.args.spec.now) c.in-Some.alg =
    c.deref-2.ensures.value ∙ c.in_ok-message.ensures
    ∙ ap (signed_bytes (protected_bytes c.in-Some.alg))
    (c.deref.ensures.value ∙ c.in_ok-unsigned.ensures.payload) in
    let bytes : c.in_ok-document.field-0.items ≡ document_for (asked_of c.args.spec.now) c.in-Some.alg
    c.in_ok-signature.signature.items =
    c.in_ok-document.ensures
    ∙ ap (λ (s : List ℕ). document_for (asked_of c.args.spec.now) c.in-Some.alg s) c.deref-3.ensures.value in
    is_issued c.issued_is_asked.ensures s c.in-Some.alg _ _ signature _ c.requires
    (sym c.holds.ensures ∙ c.in-Some.is) bytes (omega (arith, c.in_ok-document.field-0.small))
    (subst (λ (m : List ℕ). IsGenuine (g.K.KeyDevice.state c.args.device.now).held
    (g.K.KeyDevice.state c.sign.new.self).judged c.args.spec.now.key_name m signature)
    message c.in_ok-signature.ensures.signed.signed)
