use Rattle.std.proofs.Common.{◌≡◌, length, ◌+◌, ◌-◌, ◌*◌}
use Rattle.cbor_validity.specs.Item.{pair_at, times, up_to_break, item_at}
use Rattle.cbor_validity.proofs.walk.+skip.Given as goal

abbrev pub decreases-skip : goal.decreases-skip
decreases-skip l = 4 * l.depth + 1

abbrev pub decreases-skip_by_head : goal.decreases-skip_by_head
decreases-skip_by_head l = 4 * l.depth

abbrev pub decreases-skip_pair : goal.decreases-skip_pair
decreases-skip_pair l = 4 * l.depth + 2

abbrev pub decreases-skip_items : goal.decreases-skip_items
decreases-skip_items l = 4 * l.depth + 2

abbrev pub decreases-skip_items_to_break : goal.decreases-skip_items_to_break
decreases-skip_items_to_break l = 4 * l.depth + 2

abbrev pub decreases-skip_pairs : goal.decreases-skip_pairs
decreases-skip_pairs l = 4 * l.depth + 3

abbrev pub decreases-skip_pairs_to_break : goal.decreases-skip_pairs_to_break
decreases-skip_pairs_to_break l = 4 * l.depth + 3

abbrev pub invariant-skip_items-loop : goal.invariant-skip_items-loop
invariant-skip_items-loop l =
    times (item_at l.depth) (l.count - l.counter) l.rest ≡ times (item_at l.depth) l.count l.bytes

abbrev pub invariant-skip_pairs-loop : goal.invariant-skip_pairs-loop
invariant-skip_pairs-loop l =
    times (pair_at (item_at l.depth)) (l.count - l.counter) l.rest ≡ times
    (pair_at (item_at l.depth)) l.count l.bytes

abbrev pub invariant-skip_items_to_break-loop : goal.invariant-skip_items_to_break-loop
invariant-skip_items_to_break-loop l =
    up_to_break (item_at l.depth) (l.end - l.counter) l.rest ≡ up_to_break (item_at l.depth)
    (length l.bytes) l.bytes

abbrev pub invariant-skip_pairs_to_break-loop : goal.invariant-skip_pairs_to_break-loop
invariant-skip_pairs_to_break-loop l =
    up_to_break (pair_at (item_at l.depth)) (l.end - l.counter) l.rest ≡ up_to_break
    (pair_at (item_at l.depth)) (length l.bytes) l.bytes
