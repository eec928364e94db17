use Rattle.std.proofs.Common.{◌≡◌, length, ◌+◌, ◌-◌, ◌*◌, map}
use Rattle.cbor_validity.specs.Parts.{before_break}
use Rattle.cbor_validity.specs.Item.{pair_at, times, up_to_break, item_at}
use Rattle.cbor_validity.specs.Fine.{checked}
use Rattle.cbor_validity.specs.code.FineParts.{are_fine, are_entries_fine}
use Rattle.cbor_validity.specs.code.KeySeen.{meaning_of}
use Rattle.cbor_validity.proofs.OneWalk.{entries_after}
use Rattle.cbor_validity.proofs.fine.+fine.Given as goal

abbrev pub decreases-after_fine : goal.decreases-after_fine
decreases-after_fine l = 4 * l.depth

abbrev pub decreases-after_entry : goal.decreases-after_entry
decreases-after_entry l = 4 * l.depth + 1

abbrev pub decreases-after_items : goal.decreases-after_items
decreases-after_items l = 4 * l.depth + 1

abbrev pub decreases-after_items_to_break : goal.decreases-after_items_to_break
decreases-after_items_to_break l = 4 * l.depth + 1

abbrev pub decreases-after_list : goal.decreases-after_list
decreases-after_list l = 4 * l.depth + 2

abbrev pub decreases-after_map : goal.decreases-after_map
decreases-after_map l = 4 * l.depth + 3

abbrev pub decreases-after_entries : goal.decreases-after_entries
decreases-after_entries l = 4 * l.depth + 2

abbrev pub decreases-after_entries_to_break : goal.decreases-after_entries_to_break
decreases-after_entries_to_break l = 4 * l.depth + 2

abbrev pub invariant-after_items-loop : goal.invariant-after_items-loop
invariant-after_items-loop l =
    checked (are_fine l.depth) (times (item_at l.depth) (l.count - l.counter)) l.rest ≡ checked
    (are_fine l.depth) (times (item_at l.depth) l.count) l.bytes

abbrev pub invariant-after_items_to_break-loop : goal.invariant-after_items_to_break-loop
invariant-after_items_to_break-loop l =
    checked (λ c. are_fine l.depth (before_break c))
    (up_to_break (item_at l.depth) (l.end - l.counter)) l.rest ≡ checked
    (λ c. are_fine l.depth (before_break c)) (up_to_break (item_at l.depth) (length l.bytes)) l.bytes

abbrev pub invariant-after_entries-loop : goal.invariant-after_entries-loop
invariant-after_entries-loop l =
    checked (entries_after l.depth (map meaning_of l.keys.items))
    (times (pair_at (item_at l.depth)) (l.count - l.counter)) l.rest ≡ checked (are_entries_fine l.depth)
    (times (pair_at (item_at l.depth)) l.count) l.bytes

abbrev pub invariant-after_entries_to_break-loop : goal.invariant-after_entries_to_break-loop
invariant-after_entries_to_break-loop l =
    checked (λ c. entries_after l.depth (map meaning_of l.keys.items) (before_break c))
    (up_to_break (pair_at (item_at l.depth)) (l.end - l.counter)) l.rest ≡ checked
    (λ c. are_entries_fine l.depth (before_break c))
    (up_to_break (pair_at (item_at l.depth)) (length l.bytes)) l.bytes
