-- The elements of a test document as they are given in JSON: what may not stand in the value of one, and how
-- many lists, maps and tags stand inside one another in its encoding (RFC 8949, section 3).
use Rattle.std.specs.Prelude.{ℕ, suc, max, Bool, true, false, ◌&&◌, ◌||◌, nat_lt, is_some, codes}
use Rattle.json_forms.specs.Look.{is_object}
use Rattle.serde_json.specs.Data.{Data, array, object, Items, no_items, item}
use Rattle.serde_json.specs.Data.{Members as Fields, no_members as no_fields, member as field}
use Rattle.serde_json.specs.Find.{get_member}
use Rattle.mdoc_object.specs.Namespaces.{elements_in}
use Rattle.mdoc_written.specs.Element.{Standing, byte_string, full_date, itself, stands_for}

-- ---- objects of elements

-- each member is an object
abbrev pub are_namespaces : Fields → Bool
are_namespaces no_fields = true
are_namespaces (field k d ms) = is_object d && are_namespaces ms

-- ---- objects that look like a byte string or a date, and stand for neither

abbrev pub is_itself : Standing → Bool
is_itself (byte_string bytes) = false
is_itself (full_date text) = false
is_itself itself = true

abbrev pub has_mark : Fields → Bool
has_mark ms = is_some (get_member (codes "$bytes") ms) || is_some (get_member (codes "$date") ms)

-- some object within the value has a member `$bytes` or `$date`, and stands for neither
abbrev mutual
  pub is_misspelled : Data → Bool
  is_misspelled (array ds) = has_misspelled_item ds
  is_misspelled (object ms) = (is_itself (stands_for ms) && has_mark ms) || has_misspelled ms
  is_misspelled _ = false

  pub has_misspelled_item : Items → Bool
  has_misspelled_item no_items = false
  has_misspelled_item (item d ds) = is_misspelled d || has_misspelled_item ds

  pub has_misspelled : Fields → Bool
  has_misspelled no_fields = false
  has_misspelled (field k d ms) = is_misspelled d || has_misspelled ms

-- the same of the value of an element of a namespace
abbrev pub has_misspelled_element : Fields → Bool
has_misspelled_element no_fields = false
has_misspelled_element (field k d ms) = has_misspelled (elements_in d) || has_misspelled_element ms

-- ---- levels

-- A byte string has none, and a date that of its tag.
abbrev pub standing_levels : Standing → ℕ → ℕ
standing_levels (byte_string bytes) inside = 0
standing_levels (full_date text) inside = 1
standing_levels itself inside = suc inside

-- how many lists, maps and tags stand inside one another in the encoding of a value
abbrev mutual
  pub levels : Data → ℕ
  levels (array ds) = suc (items_levels ds)
  levels (object ms) = standing_levels (stands_for ms) (members_levels ms)
  levels _ = 0

  pub items_levels : Items → ℕ
  items_levels no_items = 0
  items_levels (item d ds) = max (levels d) (items_levels ds)

  pub members_levels : Fields → ℕ
  members_levels no_fields = 0
  members_levels (field k d ms) = max (levels d) (members_levels ms)

-- The value of an element lies in the map of its item, so it has at most 31 of the 32 levels of a document.
abbrev pub has_deep_element : Fields → Bool
has_deep_element no_fields = false
has_deep_element (field k d ms) = nat_lt 31 (members_levels (elements_in d)) || has_deep_element ms
