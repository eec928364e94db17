use Rattle.std.proofs.Common.{◌≡◌, ℕ}
use Rattle.std.specs.Option.{option_or}
use Rattle.cbor_core.specs.Seen.{span_of, entries_left}
use Rattle.cbor_core.specs.Views.{entries_of}
use Rattle.mdoc_security.specs.ValueDigests.{digest_in}
use Rattle.mdoc_security.specs.code.Indexes.{look}
use Rattle.mdoc_security.proofs.value_digests.digests_in.Given as goal

abbrev pub invariant-loop-key : goal.invariant-loop-key
invariant-loop-key l = record {
  can_next : (goal.iterator-loop-key).can_next l.key-iterator;
  is_finite : (goal.iterator-loop-key).is_finite l.key-iterator;
  left : (x : ℕ) → option_or (digest_in x (entries_left l.key-iterator)) (look x l.numbers) ≡ digest_in x
      (entries_of (span_of l.namespace));
}
