use Rattle.std.proofs.Common.{◌≡◌, ◌++◌, drop, map}
use Rattle.cbor_core.specs.Order.{owned}
use Rattle.mdoc_object.specs.Namespaces.{items_entry}
use Rattle.mdoc_object.specs.code.Written.{said_namespaces}
use Rattle.mdoc_object.proofs.namespaces.namespaces_bytes.Given as goal

abbrev pub invariant-loop-namespace : goal.invariant-loop-namespace
invariant-loop-namespace l =
    owned l.pairs.items ++ map items_entry (said_namespaces (drop l.namespace-index l.namespaces))
    ≡ map items_entry (said_namespaces l.namespaces)
