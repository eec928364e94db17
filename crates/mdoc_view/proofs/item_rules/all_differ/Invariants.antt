use Rattle.std.proofs.Common.{◌≡◌, map, drop}
use Rattle.std.specs.List.{list_all}
use Rattle.mdoc_view.specs.ItemRules.{elements_differ}
use Rattle.mdoc_items.specs.Parts.{said_namespace}
use Rattle.mdoc_view.proofs.item_rules.all_differ.Given as goal

abbrev pub invariant-loop-namespace : goal.invariant-loop-namespace
invariant-loop-namespace l =
    list_all elements_differ (map said_namespace (drop l.namespace-index l.namespaces))
    ≡ list_all elements_differ (map said_namespace l.namespaces)
