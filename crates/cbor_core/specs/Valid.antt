-- Valid items (RFC 8949, sections 1.2 and 5.3.1). What is written from valid items is valid, and so are the
-- items in a valid one.
use Rattle.std.specs.Prelude.{◌≡◌, ℕ, suc, ◌<◌, ◌≤◌, ◌^◌, ◌++◌, Bool, true, List, length, Some, None, ℤ}
use Rattle.std.specs.List.{concat, AllByRecursion}
use Rattle.std.specs.Str.{is_utf8}
use Rattle.cbor_validity.specs.declared.head.TheConstants.{MAX_DEPTH}
use Rattle.cbor_validity.specs.Keys.{keys_differ, keys_in}
use Rattle.cbor_core.specs.Views.{tag_of, items_of, entries_of}
use Rattle.cbor_core.specs.Rules.{broken_rule}
use Rattle.cbor_core.specs.Laws.{IsWhole}
use Rattle.cbor_writer.specs.Writing.{head_bytes, whole_bytes, text_bytes, byte_string_bytes, truth_bytes}
use Rattle.cbor_writer.specs.Writing.{null_bytes, pairs_bytes}

-- one item that breaks no rule, with at most depth lists, maps and tags inside one another
abbrev pub IsValid : ℕ → List ℕ → Type 0
IsValid depth bytes = broken_rule depth bytes ≡ None

abbrev pub AreValidPairs : ℕ → List (List ℕ × List ℕ) → Type 0
AreValidPairs depth pairs = AllByRecursion (λ p. IsValid depth p.0 × IsValid depth p.1) pairs

-- ---- parts to whole

abbrev pub WritesWhole : Type 0
WritesWhole = (depth : ℕ) (z : ℤ) → IsWhole z → IsValid depth (whole_bytes z)

abbrev pub WritesText : Type 0
WritesText = (depth : ℕ) (text : List ℕ) → length text < 2 ^ 64 → is_utf8 text ≡ true
    → IsValid depth (text_bytes text)

abbrev pub WritesBytes : Type 0
WritesBytes = (depth : ℕ) (content : List ℕ) → length content < 2 ^ 64
    → IsValid depth (byte_string_bytes content)

abbrev pub WritesTruth : Type 0
WritesTruth = (depth : ℕ) (b : Bool) → IsValid depth (truth_bytes b)

abbrev pub WritesNull : Type 0
WritesNull = (depth : ℕ) → IsValid depth null_bytes

abbrev pub WritesTag : Type 0
WritesTag = (depth n : ℕ) (item : List ℕ) → depth < MAX_DEPTH → n < 2 ^ 64 → IsValid depth item
    → IsValid (suc depth) (head_bytes 6 n ++ item)

abbrev pub WritesList : Type 0
WritesList = (depth : ℕ) (items : List (List ℕ)) → depth < MAX_DEPTH → length items < 2 ^ 64
    → AllByRecursion (IsValid depth) items → IsValid (suc depth) (head_bytes 4 (length items) ++ concat items)

-- the keys of the map differ
abbrev pub WritesMap : Type 0
WritesMap = (depth : ℕ) (pairs : List (List ℕ × List ℕ)) → depth < MAX_DEPTH → length pairs < 2 ^ 64
    → AreValidPairs depth pairs → keys_differ (keys_in pairs) ≡ true
    → IsValid (suc depth) (head_bytes 5 (length pairs) ++ pairs_bytes pairs)

-- ---- whole to parts

abbrev pub HasItems : Type 0
HasItems = (depth : ℕ) (bytes : List ℕ) → depth < MAX_DEPTH → IsValid (suc depth) bytes
    → AllByRecursion (IsValid depth) (items_of bytes)

abbrev pub HasEntries : Type 0
HasEntries = (depth : ℕ) (bytes : List ℕ) → depth < MAX_DEPTH → IsValid (suc depth) bytes
    → AreValidPairs depth (entries_of bytes)

abbrev pub HasTagged : Type 0
HasTagged = (depth n : ℕ) (bytes item : List ℕ) → depth < MAX_DEPTH → IsValid (suc depth) bytes
    → tag_of bytes ≡ Some (n, item) → IsValid depth item

abbrev pub HasKeys : Type 0
HasKeys = (depth : ℕ) (bytes : List ℕ) → IsValid depth bytes → keys_differ (keys_in (entries_of bytes)) ≡ true

-- what is valid may stand deeper
abbrev pub StandsDeeper : Type 0
StandsDeeper = (depth limit : ℕ) (bytes : List ℕ) → depth ≤ limit → limit ≤ MAX_DEPTH → IsValid depth bytes
    → IsValid limit bytes
