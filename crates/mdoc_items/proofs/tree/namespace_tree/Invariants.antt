use Rattle.std.proofs.Common.{◌≡◌, ◌++◌, map, drop}
use Rattle.mdoc_items.specs.Parts.{said_item}
use Rattle.mdoc_items.specs.Value.{value_of}
use Rattle.mdoc_items.specs.code.Valued.{valued}
use Rattle.mdoc_items.proofs.tree.namespace_tree.Given as goal

abbrev pub invariant-loop-item : goal.invariant-loop-item
invariant-loop-item l = valued l.members.items ++ map (λ i. (i.element_identifier, value_of i.element_value))
    (map said_item (drop l.item-index l.namespace.items.items)) ≡ map
    (λ i. (i.element_identifier, value_of i.element_value)) (map said_item l.namespace.items.items)
