use Rattle.std.proofs.Common.{◌≡◌, ◌+◌, ◌*◌, ◌++◌, map}
use Rattle.owned_tree.specs.Owned.{part_of}
use Rattle.cbor_core.specs.Seen.{span_of, items_left, entries_left}
use Rattle.cbor_core.specs.Views.{items_of, entries_of}
use Rattle.mdoc_items.specs.Value.{plain_parts, named_values, value_at}
use Rattle.mdoc_items.specs.code.Valued.{valued}
use Rattle.owned_tree.specs.Prefixed.{prefixed}
use Rattle.mdoc_items.proofs.value.+tree.Given as goal

abbrev pub decreases-tree_at : goal.decreases-tree_at
decreases-tree_at l = 4 * l.levels

abbrev pub decreases-list_tree : goal.decreases-list_tree
decreases-list_tree l = 4 * l.levels + 1

abbrev pub decreases-map_tree : goal.decreases-map_tree
decreases-map_tree l = 4 * l.levels + 1

abbrev pub decreases-content_tree : goal.decreases-content_tree
decreases-content_tree l = 4 * l.levels + 1

abbrev pub invariant-list_tree-loop-element : goal.invariant-list_tree-loop-element
invariant-list_tree-loop-element l = record {
  can_next : (goal.iterator-list_tree-loop-element).can_next l.element-iterator;
  is_finite : (goal.iterator-list_tree-loop-element).is_finite l.element-iterator;
  left : map part_of l.elements.items ++ plain_parts (value_at l.levels) (items_left l.element-iterator)
      ≡ plain_parts (value_at l.levels) (items_of (span_of l.fn.item));
}

abbrev pub invariant-map_tree-loop-key : goal.invariant-map_tree-loop-key
invariant-map_tree-loop-key l = record {
  can_next : (goal.iterator-map_tree-loop-key).can_next l.key-iterator;
  is_finite : (goal.iterator-map_tree-loop-key).is_finite l.key-iterator;
  left : prefixed (valued l.members.items) (named_values (value_at l.levels) (entries_left l.key-iterator))
      ≡ named_values (value_at l.levels) (entries_of (span_of l.fn.item));
}
