-- The parts of a fine item (RFC 8949, section 3): its elements or entries, one after another.
use Rattle.std.specs.Prelude.{ℕ, List, length, Bool, ◌&&◌, Option, Some, None, option_map, option_and_then}
use Rattle.std.specs.List.{list_all}
use Rattle.cbor_validity.specs.Item.{pair_at, times, up_to_break, item_at}
use Rattle.cbor_validity.specs.Parts.{before, items_in, before_break, pair_up}
use Rattle.cbor_validity.specs.Keys.{KeyMeaning, key_of, keys_differ, keys_in}
use Rattle.cbor_validity.specs.Fine.{checked, is_fine, fine_at}

-- the bytes are fine items, one after another
abbrev pub are_fine : ℕ → List ℕ → Bool
are_fine depth bytes = list_all (is_fine depth) (items_in bytes)

-- the bytes are fine keys and values in turn, and the keys are distinct
abbrev pub are_entries_fine : ℕ → List ℕ → Bool
are_entries_fine depth bytes = are_fine depth bytes && keys_differ (keys_in (pair_up (items_in bytes)))

-- the bytes after the fine elements of a list, by its count or up to its break
abbrev pub fine_list_at : ℕ → Option ℕ → List ℕ → Option (List ℕ)
fine_list_at depth (Some n) bytes = checked (are_fine depth) (times (item_at depth) n) bytes
fine_list_at depth None bytes =
    checked (λ c. are_fine depth (before_break c)) (up_to_break (item_at depth) (length bytes)) bytes

-- the bytes after the fine entries of a map, by its count or up to its break
abbrev pub fine_map_at : ℕ → Option ℕ → List ℕ → Option (List ℕ)
fine_map_at depth (Some n) bytes = checked (are_entries_fine depth) (times (pair_at (item_at depth)) n) bytes
fine_map_at depth None bytes =
    checked (λ c. are_entries_fine depth (before_break c))
    (up_to_break (pair_at (item_at depth)) (length bytes)) bytes

-- the fine key at the front, and the bytes after its fine value
abbrev pub fine_entry_at : ℕ → List ℕ → Option (KeyMeaning × List ℕ)
fine_entry_at depth bytes =
    option_and_then (λ back. option_map (λ rest. (key_of (before back bytes), rest)) (fine_at depth back))
    (fine_at depth bytes)
