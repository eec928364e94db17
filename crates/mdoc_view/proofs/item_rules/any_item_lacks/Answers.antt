use Rattle.std.proofs.Common.{rules, tests, sym, ◌∙◌}
use Rattle.std.proofs.lemmas.Iterator.{YieldsList-from_slice}
use Rattle.std.proofs.lemmas.Iterator.Search.{any_from_yields_List}
use Rattle.base_forms.proofs.Lists.{list_any-map}
use Rattle.cbor_core.specs.Seen.{span_of}
use Rattle.cbor_core.specs.Views.{entries_of}
use Rattle.mdoc_view.specs.ItemRules.{lacks}
use Rattle.mdoc_items.specs.Parts.{said_item}
use Rattle.mdoc_view.proofs.item_rules.any_item_lacks.Goals as goal

pub returns : goal.returns
returns c =
    let test = lacks (entries_of (span_of c.args.digests.now.source)) c.args.digests.now.name.now in
    any_from_yields_List (λ item. test (said_item item)) _ _ c.any.result c.any.ensures.ran
    (YieldsList-from_slice c.args.items.now cc) (λ x b q k. search (rules, tests))
    ∙ sym (list_any-map test said_item c.args.items.now)
