use Rattle.std.proofs.Common.{sym, ap, ◌∙◌}
use Rattle.std.specs.Option.{option_or}
use Rattle.cbor_core.specs.Seen.{span_of, entries_left}
use Rattle.mdoc_security.specs.ValueDigests.{namespace_at}
use Rattle.mdoc_security.specs.code.Indexes.{seek}
use Rattle.mdoc_security.proofs.Indexes.{one_before, namespace_of}
use Rattle.mdoc_security.proofs.value_digests.index_of_namespaces.Goals as goal

pub loop-key-preserved : goal.loop-key-preserved
loop-key-preserved c = record {
  can_next = tt;
  is_finite = tt;
  left = λ x.
      let rest = namespace_at x (entries_left c.next.new.self) in
      ap (option_or rest) (c.in_ok-put_namespace.ensures x)
      ∙ one_before rest (namespace_of (span_of c.in-Some.key) (span_of c.in-Some.namespace) x)
      (seek x c.loop-key.namespaces)
      ∙ ap (λ es. option_or (namespace_at x es) (seek x c.loop-key.namespaces)) (sym c.in-Some.ensures.steps)
      ∙ c.loop-key.invariant.left x;
}
