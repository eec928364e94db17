use Rattle.std.proofs.Common.{option_map, sym, ap, ◌∙◌}
use Rattle.cbor_core.specs.Seen.{span_of}
use Rattle.mdoc_security.proofs.Indexes.{put_numbered}
use Rattle.mdoc_security.proofs.value_digests.put_digest.Goals as goal

pub returns : goal.returns
returns c =
    put_numbered c.in-Some.number c.in-Some-bytes.digest c.args.numbers.now c.insert.new.self
    (span_of c.args.key) (span_of c.args.value) c.in_ok-insert.ensures.updates
    (sym c.natural.ensures ∙ c.in-Some.is)
    (sym c.bytes.ensures ∙ ap (option_map (λ b. b.now)) c.in-Some-bytes.is)
