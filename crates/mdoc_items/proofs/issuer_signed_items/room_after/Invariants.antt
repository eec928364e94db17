use Rattle.std.proofs.Common.{◌≡◌, ◌+◌, length}
use Rattle.cbor_core.specs.Seen.{span_of, items_left}
use Rattle.cbor_core.specs.Views.{items_of}
use Rattle.mdoc_items.proofs.issuer_signed_items.room_after.Given as goal

abbrev pub invariant-loop : goal.invariant-loop
invariant-loop l = record {
  can_next : (goal.iterator-loop).can_next l.iterator';
  is_finite : (goal.iterator-loop).is_finite l.iterator';
  left : l.room + length (items_left l.iterator') ≡ l.left + length (items_of (span_of l.fn.list));
}
