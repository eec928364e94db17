use Rattle.std.proofs.Common.{◌≡◌}
use Rattle.cbor_core.specs.Seen.{span_of}
use Rattle.cbor_core.specs.Views.{items_in, entries_of, pair_up}
use Rattle.cose_sign1.specs.Sign1.{find_label}
use Rattle.cose_sign1.proofs.headers.find_label.Given as goal

abbrev pub invariant-loop-key : goal.invariant-loop-key
invariant-loop-key l = record {
  can_next : (goal.iterator-loop-key).can_next l.key-iterator;
  is_finite : (goal.iterator-loop-key).is_finite l.key-iterator;
  left : find_label l.label (pair_up (items_in l.key-iterator.items.rest.now)) ≡ find_label l.label
      (entries_of (span_of l.fn.headers));
}
