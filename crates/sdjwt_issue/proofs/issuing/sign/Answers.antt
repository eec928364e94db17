use Rattle.std.proofs.Common.{◌≡◌, ◌∙◌, ℕ, List, sym, subst}
use Rattle.key_device.specs.Device.{IsGenuine}
use Rattle.std.proofs.lemmas.Result.{err_from_is_err_and}
use Rattle.jws_envelope.specs.Draft.{drafted}
use Rattle.runs.proofs.Trees.{runs_out}
use Rattle.sdjwt_issue.specs.Asked.{input_for, ReadsAsAsked}
use Rattle.sdjwt_issue.specs.code.Asking.{asked_of}
use Rattle.sdjwt_issue.proofs.Signing.{input_is, text_is, are_read_back, is_issued, runs_missing, runs_made}
use Rattle.sdjwt_issue.proofs.Signing.{runs_unmade, runs_unsigned}
use Rattle.sdjwt_issue.proofs.issuing.sign.Goals as goal

pub returns-in_default-clause-runs : goal.returns-in_default-clause-runs
returns-in_default-clause-runs g c = λ w.
    runs_missing (asked_of c.args.spec.now) _ (record w { device = g.K.KeyDevice.state c.args.device.now })
    (sym c.holds.ensures ∙ c.in_default.is)

pub returns-in_err-draft-clause-runs : goal.returns-in_err-draft-clause-runs
returns-in_err-draft-clause-runs g c =
    let p = err_from_is_err_and c.from_residual.result c.from_residual.ensures.1 in
    rw (p.1, p.2) (λ w. runs_out _ _)

pub returns-in_err-signature-clause-runs : goal.returns-in_err-signature-clause-runs
returns-in_err-signature-clause-runs g c =
    let p = err_from_is_err_and c.from_residual-in_err-signature.result
    c.from_residual-in_err-signature.ensures.1 in
    let input = input_is (asked_of c.args.spec.now) c.in-Some.alg c.args.hidden.now c.as_str.result.now
    (drafted c.in_ok-draft.draft) c.requires.hidden c.as_str.ensures.value c.in_ok-draft.ensures.written in
    rw (p.1, p.2) (λ w. runs_unsigned (asked_of c.args.spec.now) _ c.in-Some.alg
    (sym c.holds.ensures ∙ c.in-Some.is) c.as_bytes-input.result.now
    (c.as_bytes-input.ensures.value ∙ c.signing_input.ensures ∙ input) _ _ w c.in_err-signature.field-0.0
    c.in_err-signature.ensures.signed)

pub returns-in_err-signed_text-clause-runs : goal.returns-in_err-signed_text-clause-runs
returns-in_err-signed_text-clause-runs g c =
    let p = err_from_is_err_and c.from_residual-in_err-signed_text.result
    c.from_residual-in_err-signed_text.ensures.1 in
    let input = input_is (asked_of c.args.spec.now) c.in-Some.alg c.args.hidden.now c.as_str.result.now
    (drafted c.in_ok-draft.draft) c.requires.hidden c.as_str.ensures.value c.in_ok-draft.ensures.written in
    rw (p.1, p.2) (λ w. runs_unmade (asked_of c.args.spec.now) _ c.in-Some.alg
    (sym c.holds.ensures ∙ c.in-Some.is) c.as_bytes-input.result.now
    (c.as_bytes-input.ensures.value ∙ c.signing_input.ensures ∙ input) _ _ w
    c.in_ok-signature.signature.items c.in_ok-signature.ensures.signed)

pub returns-clause-runs : goal.returns-clause-runs
returns-clause-runs g c = λ w.
    let input = input_is (asked_of c.args.spec.now) c.in-Some.alg c.args.hidden.now c.as_str.result.now
    (drafted c.in_ok-draft.draft) c.requires.hidden c.as_str.ensures.value c.in_ok-draft.ensures.written in
    runs_made (asked_of c.args.spec.now) _ c.in-Some.alg (sym c.holds.ensures ∙ c.in-Some.is)
    c.as_bytes-input.result.now (c.as_bytes-input.ensures.value ∙ c.signing_input.ensures ∙ input) _ _ w
    c.in_ok-signature.signature.items _ c.in_ok-signature.ensures.signed
    (text_is (asked_of c.args.spec.now) c.in-Some.alg c.in_ok-signature.signature.items c.deref.result.now
    c.args.hidden.now (drafted c.in_ok-draft.draft) _ c.deref-2.result.now c.requires.hidden input
    c.deref.ensures.value c.deref-2.ensures.value c.in_ok-signed_text.ensures.written)

pub returns-clause-issued : goal.returns-clause-issued
returns-clause-issued g c =
    let input = input_is (asked_of c.args.spec.now) c.in-Some.alg c.args.hidden.now c.as_str.result.now
    (drafted c.in_ok-draft.draft) c.requires.hidden c.as_str.ensures.value c.in_ok-draft.ensures.written in
    let given : c.as_bytes-input.result.now ≡ input_for (asked_of c.args.spec.now) c.in-Some.alg =
    c.as_bytes-input.ensures.value ∙ c.signing_input.ensures ∙ input in
    is_issued (asked_of c.args.spec.now) c.in-Some.alg _ _ c.in_ok-signature.signature.items _
    (sym c.holds.ensures ∙ c.in-Some.is)
    (text_is (asked_of c.args.spec.now) c.in-Some.alg c.in_ok-signature.signature.items c.deref.result.now
    c.args.hidden.now (drafted c.in_ok-draft.draft) _ c.deref-2.result.now c.requires.hidden input
    c.deref.ensures.value c.deref-2.ensures.value c.in_ok-signed_text.ensures.written)
    (subst (λ (i : List ℕ). IsGenuine (g.K.KeyDevice.state c.args.device.now).held
    (g.K.KeyDevice.state c.sign.new.self).judged c.args.spec.now.key_name i c.in_ok-signature.signature.items)
    given c.in_ok-signature.ensures.signed.signed)
    (subst (λ (bytes : List ℕ). ReadsAsAsked (asked_of c.args.spec.now) c.in-Some.alg bytes)
    c.deref.ensures.value
    (c.in_ok-signed_text.ensures.read (asked_of c.args.spec.now) c.in-Some.alg c.requires.asked
    c.requires.own_digests
    (are_read_back (asked_of c.args.spec.now) c.in-Some.alg c.args.hidden.now c.as_str.result.now
    (drafted c.in_ok-draft.draft) c.requires.asked c.requires.hidden c.as_str.ensures.value input
    c.in_ok-draft.ensures.read)))
