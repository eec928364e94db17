-- The issuer-signed items of a mobile document, `IssuerSignedItem` (ISO/IEC 18013-5, section 8.3.2.1.2.2).
use Rattle.std.specs.Prelude.{ℕ, ◌+◌, List, [], ◌∷◌, codes, length, Option, Some, option_map, option_and_then}
use Rattle.cbor_core.specs.Views.{Span, utf8_text_of, items_of, find_in}
use Rattle.mdoc_items.specs.MapFields.{Utf8, Entries, text_at, natural_at, bytes_at, one_map, embedded}

-- An issuer-signed item. Its span is its whole encoding, with its tag 24.
pub record IssuerSignedItem : Type 0 where
  pub span : Span
  pub digest_id : ℕ
  pub element_identifier : Utf8
  pub element_value : Span

pub record Namespace : Type 0 where
  pub name : Utf8
  pub items : List IssuerSignedItem

-- ---- the form

-- the item of this span by the entries of its map: `digestID`, `random`, `elementIdentifier`, `elementValue`
abbrev pub item_by : Span → Entries → Option IssuerSignedItem
item_by span entries =
    option_and_then (λ digest_id.
    option_and_then (λ random.
    option_and_then (λ element_identifier.
    option_map (λ element_value. record {
      span = span;
      digest_id = digest_id;
      element_identifier = element_identifier;
      element_value = element_value;
    })
    (find_in (codes "elementValue") entries))
    (text_at (codes "elementIdentifier") entries))
    (bytes_at (codes "random") entries))
    (natural_at (codes "digestID") entries)

-- what an item of the form says
abbrev pub item_in : Span → Option IssuerSignedItem
item_in span = option_and_then (item_by span) (option_and_then one_map (embedded span))

abbrev pub all_items : List Span → Option (List IssuerSignedItem)
all_items [] = Some []
all_items (i ∷ is) = option_and_then (λ x. option_map (λ xs. x ∷ xs) (all_items is)) (item_in i)

abbrev pub namespace_in : Span × Span → Option Namespace
namespace_in e =
    option_and_then
    (λ name. option_map (λ items. record { name = name; items = items }) (all_items (items_of e.1)))
    (utf8_text_of e.0)

-- what the namespaces say, or none where one of their items is not of the form
abbrev pub all_namespaces : Entries → Option (List Namespace)
all_namespaces [] = Some []
all_namespaces (e ∷ es) =
    option_and_then (λ x. option_map (λ xs. x ∷ xs) (all_namespaces es)) (namespace_in e)

-- ---- the number of items

-- how many items a document may have
abbrev pub most_items : ℕ
most_items = 1_024

-- how many items all namespaces have
abbrev pub item_count : Entries → ℕ
item_count [] = 0
item_count (e ∷ es) = length (items_of e.1) + item_count es
