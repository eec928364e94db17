use Rattle.std.proofs.Common.{◌≡◌, None, Some, option_map, sym, ap, ◌∙◌, subst}
use Rattle.std.proofs.lemmas.Result.{err_from_is_err_and}
use Rattle.jws_envelope.specs.Jws.{envelope}
use Rattle.sdjwt_view.specs.Reading.{parts_of, pieces, either_rule, refusal_of}
use Rattle.sdjwt_view.specs.Refusal.{IsRefusal}
use Rattle.sdjwt_view.specs.code.Content.{content_in_memory}
use Rattle.sdjwt_view.specs.declared.text_parts.Parts.{Parts}
use Rattle.sdjwt_view.proofs.TextParts.{texts}
use Rattle.sdjwt_view.proofs.ReadSteps.{no_parts, jws_error, rule_past, said_past, credential_said}
use Rattle.sdjwt_view.proofs.ReadSteps.{inner_refusal, payload_sound}
use Rattle.sdjwt_view.proofs.credential.SdCredential.read.Goals as goal

pub returns-in_default-clause-refused : goal.returns-in_default-clause-refused
returns-in_default-clause-refused c =
    no_parts c.args.text.now (sym c.in_ok-parts.ensures
    ∙ ap (option_map (λ (p : Parts). (p.jws.now, texts p.disclosures.items))) c.in_default.is)

pub read_content-requires : goal.read_content-requires
read_content-requires c = payload_sound c.in-Some.parts.jws.now (envelope c.in-Ok.jws) c.in-Ok.ensures.read

pub returns-in_err-content-in-Ok-clause-refused : goal.returns-in_err-content-in-Ok-clause-refused
returns-in_err-content-in-Ok-clause-refused c =
    let parts : parts_of (pieces c.args.text.now) ≡ Some
    (c.in-Some.parts.jws.now, texts c.in-Some.parts.disclosures.items) = sym c.in_ok-parts.ensures
    ∙ ap (option_map (λ (p : Parts). (p.jws.now, texts p.disclosures.items))) c.in-Some.is in
    let rule = rule_past c.args.text.now c.in-Some.parts.jws.now (texts c.in-Some.parts.disclosures.items)
    (texts c.deref.result.now) (envelope c.in-Ok.jws) parts
    (ap texts c.deref.ensures.value) c.in-Ok.ensures.read in
    let p = err_from_is_err_and c.from_residual-in_err-content-in-Ok.result
    c.from_residual-in_err-content-in-Ok.ensures.1 in
    rw (p.1, p.2) (inner_refusal c.args.text.now _ _ rule c.in_err-content-in-Ok.ensures.refused)

pub invariant_of-result : goal.invariant_of-result
invariant_of-result c =
    let parts : parts_of (pieces c.args.text.now) ≡ Some
    (c.in-Some.parts.jws.now, texts c.in-Some.parts.disclosures.items) = sym c.in_ok-parts.ensures
    ∙ ap (option_map (λ (p : Parts). (p.jws.now, texts p.disclosures.items))) c.in-Some.is in
    let rule = rule_past c.args.text.now c.in-Some.parts.jws.now (texts c.in-Some.parts.disclosures.items)
    (texts c.deref.result.now) (envelope c.in-Ok.jws) parts
    (ap texts c.deref.ensures.value) c.in-Ok.ensures.read in
    let said = said_past c.args.text.now c.in-Some.parts.jws.now (texts c.in-Some.parts.disclosures.items)
    (texts c.deref.result.now) (envelope c.in-Ok.jws) parts
    (ap texts c.deref.ensures.value) c.in-Ok.ensures.read in
    record {
      sound = rule ∙ ap (either_rule None) c.in_ok-content-in-Ok.ensures.sound;
      read = said ∙ ap Some (sym c.in_ok-content-in-Ok.ensures.read);
    }

pub returns-in-Ok-clause-read : goal.returns-in-Ok-clause-read
returns-in-Ok-clause-read c =
    let parts : parts_of (pieces c.args.text.now) ≡ Some
    (c.in-Some.parts.jws.now, texts c.in-Some.parts.disclosures.items) = sym c.in_ok-parts.ensures
    ∙ ap (option_map (λ (p : Parts). (p.jws.now, texts p.disclosures.items))) c.in-Some.is in
    said_past c.args.text.now c.in-Some.parts.jws.now (texts c.in-Some.parts.disclosures.items)
    (texts c.deref.result.now) (envelope c.in-Ok.jws) parts
    (ap texts c.deref.ensures.value) c.in-Ok.ensures.read
    ∙ ap Some (sym c.in_ok-content-in-Ok.ensures.read)

pub returns-in-Ok-clause-credential : goal.returns-in-Ok-clause-credential
returns-in-Ok-clause-credential c =
    let parts : parts_of (pieces c.args.text.now) ≡ Some
    (c.in-Some.parts.jws.now, texts c.in-Some.parts.disclosures.items) = sym c.in_ok-parts.ensures
    ∙ ap (option_map (λ (p : Parts). (p.jws.now, texts p.disclosures.items))) c.in-Some.is in
    credential_said c.args.text.now (content_in_memory c.in_ok-content-in-Ok.content)
    (said_past c.args.text.now c.in-Some.parts.jws.now (texts c.in-Some.parts.disclosures.items)
    (texts c.deref.result.now) (envelope c.in-Ok.jws) parts
    (ap texts c.deref.ensures.value) c.in-Ok.ensures.read
    ∙ ap Some (sym c.in_ok-content-in-Ok.ensures.read))

pub returns-clause-refused : goal.returns-clause-refused
returns-clause-refused c =
    let parts : parts_of (pieces c.args.text.now) ≡ Some
    (c.in-Some.parts.jws.now, texts c.in-Some.parts.disclosures.items) = sym c.in_ok-parts.ensures
    ∙ ap (option_map (λ (p : Parts). (p.jws.now, texts p.disclosures.items))) c.in-Some.is in
    subst (IsRefusal (refusal_of c.args.text.now)) (sym c.envelope_error.ensures)
    (jws_error c.args.text.now c.in-Some.parts.jws.now
    (texts c.in-Some.parts.disclosures.items) c.in-Err.error parts c.in-Err.ensures.refused)
