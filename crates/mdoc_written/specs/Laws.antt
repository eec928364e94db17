-- What is written for the value of an element is valid CBOR (RFC 8949, section 1.2), and a reader of mobile
-- documents gives it the tree that is meant.
use Rattle.std.specs.Prelude.{◌≡◌, ℕ, zero, suc, ◌<◌, ◌^◌, ⊤, true, List, [], ◌∷◌, length, Some, None}
use Rattle.std.specs.Str.{is_utf8}
use Rattle.claim_tree.specs.Tree.{ascend}
use Rattle.serde_json.specs.Data.{Num, unsigned, negative, float, Data, null, boolean, number, string, array}
use Rattle.serde_json.specs.Data.{object, Items, no_items, item, Members as Fields, no_members as no_fields}
use Rattle.serde_json.specs.Data.{member as field}
use Rattle.cbor_validity.specs.declared.head.TheConstants.{MAX_DEPTH}
use Rattle.cbor_core.specs.Laws.{IsWhole}
use Rattle.cbor_core.specs.Rules.{broken_rule}
use Rattle.mdoc_items.specs.IssuerSignedItems.{item_in}
use Rattle.mdoc_items.specs.Value.{value_at}
use Rattle.mdoc_written.specs.Element.{Standing, byte_string, full_date, itself, stands_for, element_tree}
use Rattle.mdoc_written.specs.Element.{element_bytes}
use Rattle.mdoc_written.specs.Item.{item_bytes}

-- ---- the values that are written

abbrev pub IsText : List ℕ → Type 0
IsText s = is_utf8 s ≡ true

-- an integer of CBOR
abbrev pub IsInteger : Num → Type 0
IsInteger (unsigned n) = n < 2 ^ 64
IsInteger (negative z) = IsWhole z
IsInteger (float x) = ⊥

abbrev pub names_of : Fields → List (List ℕ)
names_of no_fields = []
names_of (field k d ms) = k ∷ names_of ms

-- An object by what it stands for: a date is a tag, and so one level, as is a map above its members.
abbrev pub CanStand : Standing → ℕ → (ℕ → Type 0) → Type 0
CanStand (byte_string bytes) depth Inside = ⊤
CanStand (full_date text) zero Inside = ⊥
CanStand (full_date text) (suc depth) Inside = IsText text
CanStand itself zero Inside = ⊥
CanStand itself (suc depth) Inside = Inside depth

-- A value whose encoding has at most this many lists, maps and tags inside one another: its numbers are
-- integers, its texts UTF-8, and the names of its objects ascend.
abbrev mutual
  pub IsElement : Data → ℕ → Type 0
  IsElement null depth = ⊤
  IsElement (boolean b) depth = ⊤
  IsElement (number n) depth = IsInteger n
  IsElement (string s) depth = IsText s
  IsElement (array ds) zero = ⊥
  IsElement (array ds) (suc depth) = AreElements ds depth
  IsElement (object ms) depth =
      (ascend (names_of ms) ≡ true) × CanStand (stands_for ms) depth (AreMembers ms)

  pub AreElements : Items → ℕ → Type 0
  AreElements no_items depth = ⊤
  AreElements (item d ds) depth = IsElement d depth × AreElements ds depth

  pub AreMembers : Fields → ℕ → Type 0
  AreMembers no_fields depth = ⊤
  AreMembers (field k d ms) depth = IsText k × IsElement d depth × AreMembers ms depth

-- ---- what a reader makes of them

-- The encoding is one valid item of this depth, and its tree is the one that is meant. No head of CBOR says a
-- length of 2^64, and no memory holds so many bytes.
abbrev pub ReadsAs : ℕ → Data → Type 0
ReadsAs depth d =
    (broken_rule depth (element_bytes d) ≡ None) × (value_at (suc depth) (element_bytes d) ≡ element_tree d)

abbrev pub ElementsRead : Type 0
ElementsRead =
    (depth : ℕ) (d : Data) → depth < MAX_DEPTH → length (element_bytes d) < 2 ^ 64 → IsElement d depth
    → ReadsAs depth d

-- ---- items

-- A reader finds the number, the name and the value in an item.
abbrev pub ItemsRead : Type 0
ItemsRead =
    (number : ℕ) (name : List ℕ) (d : Data) → number < 2 ^ 64 → IsText name → IsElement d 31
    → length (item_bytes number name d) < 2 ^ 64
    → item_in (item_bytes number name d) ≡ Some (record {
      span = item_bytes number name d;
      digest_id = number;
      element_identifier = name;
      element_value = element_bytes d;
    })
