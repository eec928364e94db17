use Rattle.std.proofs.Common.{rules, ◌≡◌, ◌∙◌, sym, ap}
use Rattle.serde_json.specs.View.{members_view}
use Rattle.cbor_core.specs.Order.{owned}
use Rattle.mdoc_written.specs.Element.{named_encodings}
use Rattle.mdoc_written.proofs.Members.{map_written, all_taken, encodings_length}
use Rattle.mdoc_written.proofs.element.+element.Goals as goal

pub list_bytes-loop-item-init : goal.list_bytes-loop-item-init
list_bytes-loop-item-init t c = search (rules, encodings_length)

pub map_bytes-returns : goal.map_bytes-returns
map_bytes-returns t c =
    let es = c.args.object.now.entries in
    let pairs = c.loop-name.pairs.items in
    let all : owned pairs ≡ named_encodings (members_view es) =
    all_taken (owned pairs)
    (named_encodings (members_view es)) c.loop-name.name-iterator c.loop-name.invariant
    c.in-None.ensures.steps.0 in
    c.finish.ensures
    ∙ map_written es pairs
    (owned c.deref-2.result.now) c.new-writer.result c.sorted_map.new.self c.len.ensures.ordered
    all (ap owned c.deref-2.ensures.value) c.new-writer.ensures c.in_ok-sorted_map.ensures.ok
