use Rattle.std.proofs.Common.{◌≡◌, ◌++◌, drop, map}
use Rattle.cbor_core.specs.Order.{owned}
use Rattle.mdoc_object.specs.ValueDigests.{digest_entry}
use Rattle.mdoc_object.specs.code.Written.{said_items}
use Rattle.mdoc_object.proofs.namespaces.digests_of.Given as goal

abbrev pub invariant-loop-item : goal.invariant-loop-item
invariant-loop-item l =
    owned l.pairs.items ++ map digest_entry (said_items (drop l.item-index l.items))
    ≡ map digest_entry (said_items l.items)
