use Rattle.std.proofs.Common.{rules, tests, sym, ◌∙◌}
use Rattle.std.proofs.lemmas.Iterator.Consumers.{YieldsList-from_first}
use Rattle.std.proofs.lemmas.Iterator.Search.{all_from_yields_List}
use Rattle.cbor_core.specs.Seen.{span_of, items_left}
use Rattle.cbor_core.specs.Views.{items_of}
use Rattle.std.specs.Option.{is_some}
use Rattle.mdoc_items.specs.MapFields.{embedded}
use Rattle.mdoc_view.proofs.issuer_signed.are_embedded.Goals as goal

pub returns-then-is_list : goal.returns-then-is_list
returns-then-is_list c = rw (sym c.is_list.ensures ∙ c.if-is_list.true) (
    all_from_yields_List (λ i. is_some (embedded i)) c.all.new.self _ c.all.result c.all.ensures.ran
    (YieldsList-from_first (λ i. i.bytes.now) items_left {s = c.items.result}
    (items_of (span_of c.args.list)) c.items.ensures.left)
    (λ x b q k. search (rules, tests)))
