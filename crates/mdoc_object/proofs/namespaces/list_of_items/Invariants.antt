use Rattle.std.proofs.Common.{◌≡◌, ◌++◌, drop, map}
use Rattle.std.specs.List.{concat}
use Rattle.mdoc_object.specs.code.Written.{said_items}
use Rattle.mdoc_written.specs.Containers.{list_bytes}
use Rattle.mdoc_object.proofs.namespaces.list_of_items.Given as goal

abbrev pub invariant-loop-item : goal.invariant-loop-item
invariant-loop-item l =
    l.writer ++ concat (map (λ i. i.bytes) (said_items (drop l.item-index l.items)))
    ≡ list_bytes (map (λ i. i.bytes) (said_items l.items))
