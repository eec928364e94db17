-- `IssuerSigned` (ISO/IEC 18013-5, section 8.3.2.1.2.2): the issuer-signed items of each namespace, and the
-- issuer's signed message.
use Rattle.std.specs.Prelude.{Bool, ◌&&◌, [], codes, Option, Some, None, option_map, option_and_then, is_some}
use Rattle.std.specs.Prelude.{if◌then◌else◌}
use Rattle.std.specs.List.{list_all}
use Rattle.cbor_core.specs.Views.{Span, is_map, kind_of, utf8_text_of, items_of, entries_of, find_in}
use Rattle.mdoc_items.specs.MapFields.{Entries, is_list, embedded}

pub record IssuerSigned : Type 0 where
  pub namespaces : Entries
  pub auth : Span

-- a list of embedded items
abbrev pub are_embedded : Span → Bool
are_embedded list = is_list (kind_of list) && list_all (λ i. is_some (embedded i)) (items_of list)

abbrev pub is_namespace : Span × Span → Bool
is_namespace e = is_some (utf8_text_of e.0) && are_embedded e.1

-- a map from texts to lists of embedded items
abbrev pub are_namespaces : Span → Bool
are_namespaces item = is_map (kind_of item) && list_all is_namespace (entries_of item)

abbrev pub namespaces_of : Span → Option Entries
namespaces_of item = if are_namespaces item then Some (entries_of item) else None

-- none, where there is no such map
abbrev pub namespaces_in : Option Span → Option Entries
namespaces_in None = Some []
namespaces_in (Some item) = namespaces_of item

abbrev pub issuer_signed_by : Entries → Option IssuerSigned
issuer_signed_by entries =
    option_and_then (λ auth.
    option_map (λ namespaces. record { namespaces = namespaces; auth = auth })
    (namespaces_in (find_in (codes "nameSpaces") entries)))
    (find_in (codes "issuerAuth") entries)

-- what an item of the form says
abbrev pub issuer_signed_in : Span → Option IssuerSigned
issuer_signed_in item = issuer_signed_by (entries_of item)
