-- The namespaces of a mobile document and the issuer-signed items of their elements (ISO/IEC 18013-5, section
-- 8.3.2.1.2.2) as an issuer of tests writes them. It is given them in JSON: an object of namespaces, each an
-- object of elements.
use Rattle.std.specs.Prelude.{ℕ, suc, ◌+◌, List, [], ◌∷◌, map}
use Rattle.base_forms.specs.Texts.{Utf8}
use Rattle.cbor_core.specs.Order.{Pair}
use Rattle.cbor_core.specs.Views.{Span}
use Rattle.serde_json.specs.Data.{Data, object, Members as Fields, no_members as no_fields, member as field}
use Rattle.mdoc_written.specs.Containers.{list_bytes, sorted_map_bytes, named}
use Rattle.mdoc_written.specs.Item.{item_bytes}

-- ---- elements

-- the elements of a namespace, and none where it is no object
abbrev pub elements_in : Data → Fields
elements_in (object ms) = ms
elements_in _ = no_fields

-- how many members an object has
abbrev pub member_count : Fields → ℕ
member_count no_fields = 0
member_count (field k d ms) = suc (member_count ms)

-- how many elements these namespaces have
abbrev pub element_count : Fields → ℕ
element_count no_fields = 0
element_count (field k d ms) = member_count (elements_in d) + element_count ms

-- ---- items

-- an issuer-signed item with its number, which is its `digestID`
pub record WrittenItem : Type 0 where
  pub number : ℕ
  pub bytes : Span

pub record WrittenNamespace : Type 0 where
  pub name : Utf8
  pub items : List WrittenItem

-- the items of these elements, numbered from n on
abbrev pub items_from : ℕ → Fields → List WrittenItem
items_from n no_fields = []
items_from n (field k d ms) = record { number = n; bytes = item_bytes n k d } ∷ items_from (suc n) ms

-- the same of the elements of all namespaces, in order
abbrev pub namespaces_from : ℕ → Fields → List WrittenNamespace
namespaces_from n no_fields = []
namespaces_from n (field k d ms) =
    record { name = k; items = items_from n (elements_in d) }
    ∷ namespaces_from (n + member_count (elements_in d)) ms

-- The numbers of the items begin at 0 and follow the order of the names.
abbrev pub written_namespaces : Fields → List WrittenNamespace
written_namespaces ms = namespaces_from 0 ms

-- ---- `nameSpaces`: the list of the items of each namespace

abbrev pub items_entry : WrittenNamespace → Pair
items_entry n = named n.name (list_bytes (map (λ i. i.bytes) n.items))

abbrev pub namespaces_bytes : List WrittenNamespace → Span
namespaces_bytes ns = sorted_map_bytes (map items_entry ns)
