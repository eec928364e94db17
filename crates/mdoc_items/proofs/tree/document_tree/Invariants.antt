use Rattle.std.proofs.Common.{◌≡◌, ◌++◌, map, drop}
use Rattle.mdoc_items.specs.Parts.{said_namespace}
use Rattle.mdoc_items.specs.Value.{namespace_tree}
use Rattle.mdoc_items.specs.code.Valued.{valued}
use Rattle.mdoc_items.proofs.tree.document_tree.Given as goal

abbrev pub invariant-loop-namespace : goal.invariant-loop-namespace
invariant-loop-namespace l =
    valued l.members.items ++ map (λ n. (n.name, namespace_tree n))
    (map said_namespace (drop l.namespace-index l.namespaces)) ≡ map (λ n. (n.name, namespace_tree n))
    (map said_namespace l.namespaces)
