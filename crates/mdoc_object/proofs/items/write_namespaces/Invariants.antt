use Rattle.std.proofs.Common.{◌≡◌, ◌++◌, ◌+◌, ◌≤◌}
use Rattle.serde_json.specs.View.{members_view}
use Rattle.mdoc_items.specs.IssuerSignedItems.{most_items}
use Rattle.mdoc_object.specs.Namespaces.{namespaces_from, written_namespaces, element_count}
use Rattle.mdoc_object.specs.code.Written.{said_namespaces}
use Rattle.mdoc_object.proofs.items.write_namespaces.Given as goal

abbrev pub invariant-loop-name : goal.invariant-loop-name
invariant-loop-name l =
    (said_namespaces l.written.items ++ namespaces_from l.number (members_view l.name-iterator)
    ≡ written_namespaces (members_view l.namespaces.entries))
    × (l.number + element_count (members_view l.name-iterator) ≤ most_items)
