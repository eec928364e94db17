use Rattle.std.proofs.Common.{◌≡◌, ◌++◌, map, drop}
use Rattle.mdoc_items.specs.Parts.{said_item}
use Rattle.mdoc_view.proofs.item_rules.elements.Given as goal

abbrev pub invariant-loop-item : goal.invariant-loop-item
invariant-loop-item l =
    map (λ s. s.now) l.elements.items ++ map (λ i. i.element_identifier)
    (map said_item (drop l.item-index l.items)) ≡ map (λ i. i.element_identifier) (map said_item l.items)
