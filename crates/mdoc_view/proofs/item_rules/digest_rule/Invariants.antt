use Rattle.std.proofs.Common.{◌≡◌, ◌||◌, map, drop}
use Rattle.std.specs.List.{list_any}
use Rattle.cbor_core.specs.Seen.{span_of}
use Rattle.cbor_core.specs.Views.{entries_of}
use Rattle.mdoc_view.specs.ItemRules.{any_item, lacks, deviates}
use Rattle.mdoc_items.specs.Parts.{said_namespace}
use Rattle.mdoc_view.proofs.item_rules.digest_rule.Given as goal

abbrev pub invariant-loop-namespace : goal.invariant-loop-namespace
invariant-loop-namespace l = record {
  lack : list_any (any_item (lacks (entries_of (span_of l.digests.source))))
      (map said_namespace (drop l.namespace-index l.namespaces)) ≡ list_any
      (any_item (lacks (entries_of (span_of l.digests.source)))) (map said_namespace l.namespaces);
  deviate : (l.deviate || list_any (any_item (deviates l.hash (entries_of (span_of l.digests.source))))
      (map said_namespace (drop l.namespace-index l.namespaces))) ≡ list_any
      (any_item (deviates l.hash (entries_of (span_of l.digests.source)))) (map said_namespace l.namespaces);
}
