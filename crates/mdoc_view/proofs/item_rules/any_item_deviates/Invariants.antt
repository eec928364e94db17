use Rattle.std.proofs.Common.{◌≡◌, map, drop}
use Rattle.std.specs.List.{list_any}
use Rattle.cbor_core.specs.Seen.{span_of}
use Rattle.cbor_core.specs.Views.{entries_of}
use Rattle.mdoc_view.specs.ItemRules.{deviates}
use Rattle.mdoc_items.specs.Parts.{said_item}
use Rattle.mdoc_view.proofs.item_rules.any_item_deviates.Given as goal

abbrev pub invariant-loop-item : goal.invariant-loop-item
invariant-loop-item l = list_any (deviates l.hash (entries_of (span_of l.digests.source)) l.digests.name.now)
    (map said_item (drop l.item-index l.items)) ≡ list_any
    (deviates l.hash (entries_of (span_of l.digests.source)) l.digests.name.now) (map said_item l.items)
