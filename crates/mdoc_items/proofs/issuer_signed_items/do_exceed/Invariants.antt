use Rattle.std.proofs.Common.{◌≡◌, nat_lt}
use Rattle.cbor_core.specs.Seen.{span_of, entries_left}
use Rattle.cbor_core.specs.Views.{entries_of}
use Rattle.mdoc_items.specs.IssuerSignedItems.{item_count, most_items}
use Rattle.mdoc_items.proofs.issuer_signed_items.do_exceed.Given as goal

abbrev pub invariant-loop-list : goal.invariant-loop-list
invariant-loop-list l = record {
  can_next : (goal.iterator-loop-list).can_next l.list-iterator;
  is_finite : (goal.iterator-loop-list).is_finite l.list-iterator;
  left : nat_lt l.room (item_count (entries_left l.list-iterator)) ≡ nat_lt most_items
      (item_count (entries_of (span_of l.namespaces)));
}
