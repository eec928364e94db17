-- Reading, step by step.
use Rattle.std.proofs.Common.{◌≡◌, ℕ, List, Some, None, option_and_then, Result, Ok, Err, sym, ap, ◌∙◌}
use Rattle.std.specs.Prelude.{IfOk, IfErr}
use Rattle.cbor_core.specs.declared.error.Error as theirs
use Rattle.cbor_core.specs.declared.error.Error.TheVariants as their
use Rattle.cbor_core.specs.Refusal.{IsRefusal as TheirRefusal}
use Rattle.cbor_core.specs.Rules.{broken_rule}
use Rattle.cose_sign1.specs.Sign1.{Message, message_in}
use Rattle.cbor_core.specs.Views.{Span}
use Rattle.mdoc_view.specs.IssuerSigned.{IssuerSigned, issuer_signed_in}
use Rattle.mdoc_view.specs.Reading.{content_by, content_in}
use Rattle.mdoc_view.specs.Refusal.{refusal_of, refusal_by, refusal_of_issuer_signed}
use Rattle.mdoc_view.specs.Errors.{IsRefusal}
use Rattle.mdoc_view.specs.code.Conversions.{of_cbor}

pub in_ok : {A E : Type 0} (r : Result A E) (P Q : A → Type 0) → ((a : A) → P a → Q a) → IfOk r P → IfOk r Q
in_ok (Ok a) P Q f h = f a h
in_ok (Err e) P Q f h = tt

pub in_err : {A E : Type 0} (r : Result A E) (P Q : E → Type 0) → ((e : E) → P e → Q e) → IfErr r P
    → IfErr r Q
in_err (Ok a) P Q f h = tt
in_err (Err e) P Q f h = f e h

-- the bytes are one item
pub past_cbor : (bytes : List ℕ) (span : Span) → broken_rule 32 bytes ≡ None → span ≡ bytes
    → refusal_of bytes ≡ refusal_of_issuer_signed (issuer_signed_in span)
unfolding refusal_of
past_cbor bytes span h same =
    ap (refusal_by bytes) h ∙ ap (λ s. refusal_of_issuer_signed (issuer_signed_in s)) (sym same)

pub cbor_refused : (bytes : List ℕ) (error : theirs.Error) → TheirRefusal error (broken_rule 32 bytes)
    → IsRefusal (refusal_of bytes) (of_cbor error)
unfolding refusal_of
cbor_refused bytes (their.Refused n) h = ap (refusal_by bytes) h
cbor_refused bytes their.NoMemory h = tt

-- the item has the form, and a signed message
pub said_in : (span : Span) (issued : IssuerSigned) (auth : Message) → issuer_signed_in span ≡ Some issued
    → message_in issued.auth ≡ Some auth → content_in span ≡ content_by issued.namespaces auth
unfolding content_in
said_in span issued auth form signed =
    ap (λ o. option_and_then
    (λ (i : IssuerSigned). option_and_then (content_by i.namespaces) (message_in i.auth)) o) form
    ∙ ap (option_and_then (content_by issued.namespaces)) signed
