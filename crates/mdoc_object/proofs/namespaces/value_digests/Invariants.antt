use Rattle.std.proofs.Common.{◌≡◌, ◌++◌, drop, map}
use Rattle.std.specs.List.{AllByRecursion}
use Rattle.cbor_core.specs.Order.{owned}
use Rattle.mdoc_object.specs.ValueDigests.{digests_entry}
use Rattle.mdoc_object.specs.code.Written.{said_namespaces, NumbersDiffer}
use Rattle.mdoc_object.proofs.namespaces.value_digests.Given as goal

abbrev pub invariant-loop-namespace : goal.invariant-loop-namespace
invariant-loop-namespace l =
    (owned l.pairs.items ++ map digests_entry (said_namespaces (drop l.namespace-index l.namespaces))
    ≡ map digests_entry (said_namespaces l.namespaces))
    × AllByRecursion NumbersDiffer (said_namespaces (drop l.namespace-index l.namespaces))
