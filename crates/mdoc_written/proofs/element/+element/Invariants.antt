use Rattle.std.proofs.Common.{◌≡◌, ◌++◌, drop}
use Rattle.std.specs.List.{concat}
use Rattle.serde_json.specs.View.{items_view, members_view}
use Rattle.cbor_core.specs.Order.{owned}
use Rattle.mdoc_written.specs.Containers.{list_bytes}
use Rattle.mdoc_written.specs.Element.{encodings, named_encodings}
use Rattle.mdoc_written.proofs.element.+element.Given as goal

abbrev pub invariant-list_bytes-loop-item : goal.invariant-list_bytes-loop-item
invariant-list_bytes-loop-item l =
    l.writer ++ concat (encodings (items_view (drop l.item-index l.list.items)))
    ≡ list_bytes (encodings (items_view l.list.items))

abbrev pub invariant-map_bytes-loop-name : goal.invariant-map_bytes-loop-name
invariant-map_bytes-loop-name l =
    owned l.pairs.items ++ named_encodings (members_view l.name-iterator)
    ≡ named_encodings (members_view l.object.entries)
