-- What the parts of a document in memory stand for.
use Rattle.cbor_core.specs.Seen.{span_of}
use Rattle.mdoc_items.specs.Parts.{entries_in}
use Rattle.mdoc_view.specs.IssuerSigned.{IssuerSigned as SaidIssuerSigned}
use Rattle.mdoc_view.specs.declared.issuer_signed.IssuerSigned.{IssuerSigned}

abbrev pub said_issuer_signed : IssuerSigned → SaidIssuerSigned
said_issuer_signed i = record { namespaces = entries_in i.namespaces; auth = span_of i.auth }
