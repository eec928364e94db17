use Rattle.std.proofs.Common.{◌≡◌, Some, option_map, sym, ap, ◌∙◌}
use Rattle.cbor_core.specs.Seen.{span_of}
use Rattle.cose_sign1.specs.code.Message.{message}
use Rattle.mdoc_view.specs.code.Content.{content_in_memory}
use Rattle.mdoc_view.specs.IssuerSigned.{issuer_signed_in}
use Rattle.mdoc_view.specs.code.Parts.{said_issuer_signed}
use Rattle.mdoc_view.specs.Reading.{content_by, content_in}
use Rattle.mdoc_view.specs.declared.content.Content.{Content}
use Rattle.mdoc_view.proofs.ReadSteps.{in_ok, said_in}
use Rattle.mdoc_view.proofs.reader.read_content.Goals as goal

pub returns-in-Ok-clause-read : goal.returns-in-Ok-clause-read
returns-in-Ok-clause-read c =
    let issued = said_issuer_signed c.in-Some.issued in
    let form : issuer_signed_in (span_of c.args.item) ≡ Some issued =
    sym c.of.ensures ∙ ap (option_map said_issuer_signed) c.in-Some.is in
    let whole = said_in (span_of c.args.item) issued (message c.in-Ok.auth) form c.in-Ok.ensures.read in
    in_ok c.read_signed.result
    (λ (r : Content). content_by issued.namespaces (message c.in-Ok.auth) ≡ Some (content_in_memory r))
    (λ (r : Content). content_in (span_of c.args.item) ≡ Some (content_in_memory r))
    (λ r h. whole ∙ h) c.read_signed.ensures.read
