use Rattle.std.proofs.Common.{◌≡◌, drop}
use Rattle.serde_json.specs.View.{items_view, members_view}
use Rattle.mdoc_spec.specs.Elements.{has_misspelled_item, has_misspelled}
use Rattle.mdoc_spec.proofs.spelling.+misspelled.Given as goal

abbrev pub invariant-has_misspelled_item-loop-item : goal.invariant-has_misspelled_item-loop-item
invariant-has_misspelled_item-loop-item l =
    has_misspelled_item (items_view (drop l.item-index l.item-items)) ≡ has_misspelled_item
    (items_view l.item-items)

abbrev pub invariant-has_misspelled-loop-member : goal.invariant-has_misspelled-loop-member
invariant-has_misspelled-loop-member l =
    has_misspelled (members_view l.member-iterator) ≡ has_misspelled (members_view l.object.entries)
