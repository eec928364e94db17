-- What the issuer-signed items of a mobile document (ISO/IEC 18013-5, section 8.3.2.1.2.2) in memory say.
use Rattle.std.specs.Prelude.{[], map, Option, Some, None}
use Rattle.cbor_core.specs.declared.item.Item.{Item}
use Rattle.cbor_core.specs.Seen.{span_of}
use Rattle.cbor_core.specs.Views.{entries_of}
use Rattle.mdoc_items.specs.MapFields.{Entries}
use Rattle.mdoc_items.specs.IssuerSignedItems.{IssuerSignedItem as SaidItem, Namespace as SaidNamespace}
use Rattle.mdoc_items.specs.declared.issuer_signed_items.IssuerSignedItem.{IssuerSignedItem}
use Rattle.mdoc_items.specs.declared.issuer_signed_items.Namespace.{Namespace}

-- the entries of a map, and none where there is no map
abbrev pub entries_in : Option Item → Entries
entries_in None = []
entries_in (Some i) = entries_of (span_of i)

abbrev pub said_item : IssuerSignedItem → SaidItem
said_item i = record {
  span = i.span.now;
  digest_id = i.digest_id;
  element_identifier = i.element_identifier.now;
  element_value = span_of i.element_value;
}

abbrev pub said_namespace : Namespace → SaidNamespace
said_namespace n = record { name = n.name.now; items = map said_item n.items.items }
