use Rattle.std.proofs.Common.{sym, ap, ◌∙◌}
use Rattle.std.specs.Option.{option_or}
use Rattle.cbor_core.specs.Seen.{span_of, entries_left}
use Rattle.mdoc_security.specs.ValueDigests.{digest_in}
use Rattle.mdoc_security.specs.code.Indexes.{look}
use Rattle.mdoc_security.proofs.Indexes.{one_before, digest_of}
use Rattle.mdoc_security.proofs.value_digests.digests_in.Goals as goal

pub loop-key-preserved : goal.loop-key-preserved
loop-key-preserved c = record {
  can_next = tt;
  is_finite = tt;
  left = λ x.
      let rest = digest_in x (entries_left c.next.new.self) in
      ap (option_or rest) (c.in_ok-put_digest.ensures x)
      ∙ one_before rest (digest_of (span_of c.in-Some.key) (span_of c.in-Some.value) x)
      (look x c.loop-key.numbers)
      ∙ ap (λ es. option_or (digest_in x es) (look x c.loop-key.numbers)) (sym c.in-Some.ensures.steps)
      ∙ c.loop-key.invariant.left x;
}
