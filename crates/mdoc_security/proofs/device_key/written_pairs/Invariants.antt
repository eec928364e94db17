use Rattle.std.proofs.Common.{◌≡◌, []}
use Rattle.cbor_core.specs.Seen.{span_of, entries_left}
use Rattle.cbor_core.specs.Views.{entries_of}
use Rattle.mdoc_security.specs.DeviceKey.{put_written}
use Rattle.mdoc_security.specs.code.Pairs.{owned_pairs}
use Rattle.mdoc_security.proofs.device_key.written_pairs.Given as goal

abbrev pub invariant-loop-label : goal.invariant-loop-label
invariant-loop-label l = record {
  can_next : (goal.iterator-loop-label).can_next l.label-iterator;
  is_finite : (goal.iterator-loop-label).is_finite l.label-iterator;
  left : put_written (entries_left l.label-iterator) (owned_pairs l.pairs.entries) ≡ put_written
      (entries_of (span_of l.fn.key)) [];
}
