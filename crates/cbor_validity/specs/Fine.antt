-- An item is fine where each text string in it is UTF-8 and the keys of each map in it are distinct (RFC
-- 8949, sections 3.1, 5.3.1 and 5.6).
use Rattle.std.specs.Prelude.{ℕ, zero, suc, List, Bool, true, ◌&&◌, Option, Some, None, if◌then◌else◌}
use Rattle.std.specs.Option.{option_map_or}
use Rattle.std.specs.List.{list_all}
use Rattle.std.specs.Str.{is_utf8}
use Rattle.cbor_validity.specs.Item.{Reader, item_at}
use Rattle.cbor_validity.specs.Parts.{on_ok, before, items_in, inside_of, entries_of, text_of}
use Rattle.cbor_validity.specs.Keys.{keys_differ, keys_in}

-- the test holds of the item and of every item inside it, down to this depth
unfoldable pub each_inside : (List ℕ → Bool) → ℕ → List ℕ → Bool
each_inside test zero bytes = test bytes
each_inside test (suc depth) bytes =
    test bytes && list_all (each_inside test depth) (items_in (inside_of bytes))

-- the test holds of an item that stands directly inside one with this depth
abbrev pub each_below : (List ℕ → Bool) → ℕ → List ℕ → Bool
each_below test zero = λ _. true
each_below test (suc depth) = each_inside test depth

-- if the item is a text string, it is UTF-8
unfoldable pub is_fine_text : List ℕ → Bool
is_fine_text bytes = option_map_or is_utf8 (text_of bytes) true

-- if the item is a map, its keys are distinct
abbrev pub is_fine_map : List ℕ → Bool
is_fine_map bytes = keys_differ (keys_in (entries_of bytes))

-- both
abbrev pub is_fine_item : List ℕ → Bool
is_fine_item bytes = is_fine_text bytes && is_fine_map bytes

-- the bytes after what a reader reads, if that passes the test
abbrev pub checked : (List ℕ → Bool) → Reader → List ℕ → Option (List ℕ)
checked test read bytes =
    on_ok (read bytes) (λ rest. if test (before rest bytes) then Some rest else None) None

-- the item is fine
abbrev pub is_fine : ℕ → List ℕ → Bool
is_fine depth bytes = each_inside is_fine_item depth bytes

-- the bytes after the fine item at the front, if there is one
abbrev pub fine_at : ℕ → List ℕ → Option (List ℕ)
fine_at depth bytes = checked (is_fine depth) (item_at depth) bytes
