use Rattle.std.proofs.Common.{◌≡◌}
use Rattle.std.specs.Option.{option_or}
use Rattle.cbor_core.specs.Seen.{span_of, entries_left}
use Rattle.cbor_core.specs.Views.{entries_of}
use Rattle.mdoc_items.specs.MapFields.{Utf8}
use Rattle.mdoc_security.specs.ValueDigests.{namespace_at}
use Rattle.mdoc_security.specs.code.Indexes.{seek}
use Rattle.mdoc_security.proofs.value_digests.index_of_namespaces.Given as goal

abbrev pub invariant-loop-key : goal.invariant-loop-key
invariant-loop-key l = record {
  can_next : (goal.iterator-loop-key).can_next l.key-iterator;
  is_finite : (goal.iterator-loop-key).is_finite l.key-iterator;
  left : (x : Utf8)
      → option_or (namespace_at x (entries_left l.key-iterator)) (seek x l.namespaces) ≡ namespace_at x
      (entries_of (span_of l.source));
}
