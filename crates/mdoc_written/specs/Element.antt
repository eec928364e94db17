-- The value of an element of a mobile document (ISO/IEC 18013-5, section 8.3.2.1.2.2) as an issuer is given
-- it, in JSON (RFC 8259): its deterministic encoding in CBOR (RFC 8949, section 4.2.1), and the claim tree
-- that it means.
--
-- JSON has neither byte strings nor dates. The object `{"$bytes": HEX}` stands for the byte string whose
-- lower-case hexadecimal HEX is, and `{"$date": TEXT}` for a `full-date`: the text under tag 1004 (RFC 8943).
use Rattle.std.specs.Prelude.{ℕ, pos, false, List, [], ◌∷◌, ◌++◌, codes, Result, Ok, Err, if◌then◌else◌}
use Rattle.std.specs.Str.{bytes_eq}
use Rattle.base_forms.specs.Base16.{hex_read}
use Rattle.cbor_core.specs.Order.{Pair}
use Rattle.cbor_core.specs.Views.{Span}
use Rattle.cbor_core.specs.Writing.{head_bytes, whole_bytes, text_bytes, byte_string_bytes, truth_bytes}
use Rattle.cbor_core.specs.Writing.{null_bytes}
use Rattle.claim_tree.specs.Plain.{plain_number}
use Rattle.claim_tree.specs.Tree.{Tree, Text, Whole, Truth, Null, Bytes, Other, ListOf, RecordOf, Elements}
use Rattle.claim_tree.specs.Tree.{no_elements, element, Members, no_members, member}
use Rattle.serde_json.specs.Data.{Num, unsigned, negative, float, Data, null, boolean, number, string, array}
use Rattle.serde_json.specs.Data.{object, Items, no_items, item, Members as Fields, no_members as no_fields}
use Rattle.serde_json.specs.Data.{member as field}
use Rattle.mdoc_written.specs.Containers.{list_bytes, sorted_map_bytes, named}

-- ---- what an object stands for

pub data Standing : Type 0 where
  byte_string : List ℕ → Standing
  full_date : List ℕ → Standing
  itself : Standing

abbrev pub bytes_or_itself : Result (List ℕ) ℕ → Standing
bytes_or_itself (Ok bytes) = byte_string bytes
bytes_or_itself (Err rule) = itself

-- what the object of this one text stands for
abbrev pub stands_by : List ℕ → List ℕ → Standing
stands_by name text =
    if bytes_eq name (codes "$bytes") then bytes_or_itself (hex_read text)
    else if bytes_eq name (codes "$date") then full_date text
    else itself

abbrev pub stands_for : Fields → Standing
stands_for (field name (string text) no_fields) = stands_by name text
stands_for _ = itself

-- ---- the claim tree: nothing in it is held, and no list is loose

abbrev pub object_tree : Standing → Members → Tree
object_tree (byte_string bytes) ms = Bytes bytes
object_tree (full_date text) ms = Text text
object_tree itself ms = RecordOf ms

abbrev mutual
  pub element_tree : Data → Tree
  element_tree null = Null
  element_tree (boolean b) = Truth b
  element_tree (number n) = plain_number n
  element_tree (string s) = Text s
  element_tree (array ds) = ListOf false (item_trees ds)
  element_tree (object ms) = object_tree (stands_for ms) (member_trees ms)

  pub item_trees : Items → Elements
  item_trees no_items = no_elements
  item_trees (item d ds) = element false (element_tree d) (item_trees ds)

  pub member_trees : Fields → Members
  member_trees no_fields = no_members
  member_trees (field k d ms) = member k false (element_tree d) (member_trees ms)

-- ---- the encoding

-- A number that is no integer, which no document has, has no bytes.
abbrev pub number_bytes : Num → Span
number_bytes (unsigned n) = whole_bytes (pos n)
number_bytes (negative z) = whole_bytes z
number_bytes (float x) = []

abbrev pub full_date_bytes : List ℕ → Span
full_date_bytes text = head_bytes 6 1004 ++ text_bytes text

abbrev pub object_bytes : Standing → List Pair → Span
object_bytes (byte_string bytes) pairs = byte_string_bytes bytes
object_bytes (full_date text) pairs = full_date_bytes text
object_bytes itself pairs = sorted_map_bytes pairs

abbrev mutual
  pub element_bytes : Data → Span
  element_bytes null = null_bytes
  element_bytes (boolean b) = truth_bytes b
  element_bytes (number n) = number_bytes n
  element_bytes (string s) = text_bytes s
  element_bytes (array ds) = list_bytes (encodings ds)
  element_bytes (object ms) = object_bytes (stands_for ms) (named_encodings ms)

  pub encodings : Items → List Span
  encodings no_items = []
  encodings (item d ds) = element_bytes d ∷ encodings ds

  pub named_encodings : Fields → List Pair
  named_encodings no_fields = []
  named_encodings (field k d ms) = named k (element_bytes d) ∷ named_encodings ms
