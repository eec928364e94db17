-- The claim tree of a mobile document: its namespaces, in each its elements, and the value of each (ISO/IEC
-- 18013-5, section 8.3.2.1.2.2).
use Rattle.std.specs.Prelude.{ℕ, zero, suc, Bool, true, false, ◌&&◌, List, [], ◌∷◌, map, Option, Some}
use Rattle.std.specs.Prelude.{option_map, option_and_then, if◌then◌else◌}
use Rattle.std.specs.Option.{option_map_or}
use Rattle.std.specs.Ordering.{nat_cmp, is_lt, match_ordering}
use Rattle.std.specs.Cmp.Lexicographic.{slice_cmp}
use Rattle.claim_tree.specs.Tree.{Tree, Text, Whole, Truth, Null, Bytes, Other, ListOf, RecordOf}
use Rattle.claim_tree.specs.Parts.{Part, Named, elements_of, members_of}
use Rattle.cbor_core.specs.declared.kind.Kind.{Kind}
use Rattle.cbor_core.specs.declared.kind.Kind.TheVariants as kind
use Rattle.cbor_core.specs.Views.{Span, kind_of, whole_of, bytes_of, utf8_text_of, truth_of, tag_of, items_of}
use Rattle.cbor_core.specs.Views.{entries_of}
use Rattle.mdoc_items.specs.MapFields.{Utf8, Entries}
use Rattle.mdoc_items.specs.IssuerSignedItems.{Namespace}

-- ---- records

-- a name with its tree
abbrev pub Valued : Type 0
Valued = Utf8 × Tree

-- one more, in its place by the bytes of its name
abbrev pub placed : Valued → List Valued → List Valued
placed m [] = m ∷ []
placed m (l ∷ ls) = match_ordering (slice_cmp nat_cmp m.0 l.0) (m ∷ l ∷ ls) (m ∷ l ∷ ls) (l ∷ placed m ls)

-- in the order of the names
abbrev pub in_order : List Valued → List Valued
in_order [] = []
in_order (m ∷ ms) = placed m (in_order ms)

-- each name stands before the next
abbrev pub rise : List Valued → Bool
rise [] = true
rise (m ∷ []) = true
rise (l ∷ m ∷ ms) = is_lt (slice_cmp nat_cmp l.0 m.0) && rise (m ∷ ms)

abbrev pub marked : Bool → List Valued → List Named
marked held ms = map (λ m. (m.0, held, m.1)) ms

-- The record of named trees, all of them held or none. Where two names are equal, as in no document that is
-- read, it is `Other`.
abbrev pub record_of : Bool → List Valued → Tree
record_of held ms = if rise (in_order ms) then RecordOf (members_of (marked held (in_order ms))) else Other

-- ---- the tree of an item

-- the values of a map by their names, or none where a key is not a text
abbrev pub named_values : (Span → Tree) → Entries → Option (List Valued)
named_values inner [] = Some []
named_values inner (e ∷ es) =
    option_and_then (λ name. option_map (λ ms. (name, inner e.1) ∷ ms) (named_values inner es))
    (utf8_text_of e.0)

-- a map whose keys are all texts, nothing of it held
abbrev pub map_tree : (Span → Tree) → Span → Tree
map_tree inner item = option_map_or (record_of false) (named_values inner (entries_of item)) Other

abbrev pub plain_parts : (Span → Tree) → List Span → List Part
plain_parts inner is = map (λ i. (false, inner i)) is

-- a list that is not loose, nothing of it held
abbrev pub list_tree : (Span → Tree) → Span → Tree
list_tree inner item = ListOf false (elements_of (plain_parts inner (items_of item)))

-- the content of a tag
abbrev pub content_tree : (Span → Tree) → Span → Tree
content_tree inner item = option_map_or (λ t. inner t.1) (tag_of item) Other

abbrev pub tree_by : (Span → Tree) → Kind → Span → Tree
tree_by inner kind.Whole item = option_map_or Whole (whole_of item) Other
tree_by inner kind.Bytes item = option_map_or Bytes (bytes_of item) Other
tree_by inner kind.Text item = option_map_or Text (utf8_text_of item) Other
tree_by inner kind.List item = list_tree inner item
tree_by inner kind.Map item = map_tree inner item
tree_by inner kind.Tag item = content_tree inner item
tree_by inner kind.Truth item = option_map_or Truth (truth_of item) Other
tree_by inner kind.Null item = Null
tree_by inner kind.Other item = Other

-- an item's tree, to a depth of n items inside one another
unfoldable pub value_at : ℕ → Span → Tree
value_at zero item = Other
value_at (suc n) item = tree_by (value_at n) (kind_of item) item

-- The tree of an element's value. The value lies in a map of at most 32 levels, so no part of it lies deeper.
abbrev pub value_of : Span → Tree
value_of item = value_at 32 item

-- ---- the tree of a document: each namespace and each element is held

abbrev pub namespace_tree : Namespace → Tree
namespace_tree n = record_of true (map (λ i. (i.element_identifier, value_of i.element_value)) n.items)

unfoldable pub document_tree : List Namespace → Tree
document_tree ns = record_of true (map (λ n. (n.name, namespace_tree n)) ns)
