use Rattle.std.proofs.Common.{option_map, sym, ap, ◌∙◌}
use Rattle.cbor_core.specs.Seen.{span_of}
use Rattle.mdoc_security.proofs.Indexes.{put_named}
use Rattle.mdoc_security.proofs.value_digests.put_namespace.Goals as goal

pub returns : goal.returns
returns c =
    put_named c.in-Some.name c.args.namespace c.args.namespaces.now c.insert.new.self
    (span_of c.args.key) c.in_ok-insert.ensures.updates
    (sym c.text.ensures ∙ ap (option_map (λ s. s.now)) c.in-Some.is)
