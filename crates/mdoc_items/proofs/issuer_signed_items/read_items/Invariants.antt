use Rattle.std.proofs.Common.{◌≡◌, map}
use Rattle.cbor_core.specs.Seen.{span_of, items_left}
use Rattle.cbor_core.specs.Views.{items_of}
use Rattle.mdoc_items.specs.IssuerSignedItems.{all_items}
use Rattle.mdoc_items.specs.Parts.{said_item}
use Rattle.owned_tree.specs.Prefixed.{prefixed}
use Rattle.mdoc_items.proofs.issuer_signed_items.read_items.Given as goal

abbrev pub invariant-loop-item : goal.invariant-loop-item
invariant-loop-item l = record {
  can_next : (goal.iterator-loop-item).can_next l.item-iterator;
  is_finite : (goal.iterator-loop-item).is_finite l.item-iterator;
  left : prefixed (map said_item l.list.items) (all_items (items_left l.item-iterator)) ≡ all_items
      (items_of (span_of l.fn.items));
}
