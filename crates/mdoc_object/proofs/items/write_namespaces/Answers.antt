use Rattle.serde_json.specs.View.{members_view}
use Rattle.mdoc_object.specs.Namespaces.{written_namespaces}
use Rattle.mdoc_object.specs.code.Written.{said_namespaces}
use Rattle.mdoc_object.proofs.Memory.{written_differ, all_written}
use Rattle.mdoc_object.proofs.items.write_namespaces.Goals as goal

pub returns-clause-differ : goal.returns-clause-differ
returns-clause-differ c =
    let es = c.args.namespaces.now.entries in
    let ns = said_namespaces c.loop-name.written.items in
    written_differ es ns c.len.ensures.ordered c.requires
    (all_written ns (written_namespaces (members_view es)) c.loop-name.number c.loop-name.name-iterator
    c.loop-name.invariant.0 c.in-None.ensures.steps.0)
