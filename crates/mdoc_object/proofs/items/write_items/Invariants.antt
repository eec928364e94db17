use Rattle.std.proofs.Common.{◌≡◌, ◌++◌, ◌+◌, ◌≤◌, length}
use Rattle.serde_json.specs.View.{members_view}
use Rattle.mdoc_items.specs.IssuerSignedItems.{most_items}
use Rattle.mdoc_object.specs.Namespaces.{items_from, member_count}
use Rattle.mdoc_object.specs.code.Written.{said_items}
use Rattle.mdoc_object.proofs.items.write_items.Given as goal

abbrev pub invariant-loop-name : goal.invariant-loop-name
invariant-loop-name l =
    (said_items l.items.items ++ items_from l.number (members_view l.name-iterator)
    ≡ items_from l.first (members_view l.elements.entries))
    × (length l.items.items + member_count (members_view l.name-iterator)
    ≡ member_count (members_view l.elements.entries))
    × (l.number + member_count (members_view l.name-iterator) ≤ most_items)
