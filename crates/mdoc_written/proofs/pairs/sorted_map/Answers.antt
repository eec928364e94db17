use Rattle.std.proofs.Common.{rules, ◌≡◌, ◌∙◌, refl}
use Rattle.cbor_core.specs.Order.{owned}
use Rattle.mdoc_written.proofs.Sorting.{map_of_order, related}
use Rattle.mdoc_written.proofs.pairs.sorted_map.Goals as goal

pub returns : goal.returns
returns c =
    let ps = owned c.args.pairs.now in
    let written = c.in_ok-sorted_map.ensures.ok in
    c.finish.ensures
    ∙ map_of_order ps ps written.0 c.new-writer.result c.sorted_map.new.self (related ps c.requires) refl
    c.new-writer.ensures written.1 written.2
