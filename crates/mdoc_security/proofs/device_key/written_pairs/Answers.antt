use Rattle.std.proofs.Common.{List, ℕ, nat_cmp, sym, ap, ap₂, ◌∙◌}
use Rattle.std.specs.BTreeMap.{insert_entry}
use Rattle.std.specs.Cmp.Lexicographic.{slice_cmp}
use Rattle.cbor_core.specs.Seen.{entries_left}
use Rattle.mdoc_security.specs.DeviceKey.{put_written}
use Rattle.mdoc_security.specs.code.Pairs.{owned_pairs}
use Rattle.mdoc_security.proofs.KeyPairs.{put_pair}
use Rattle.mdoc_security.proofs.device_key.written_pairs.Goals as goal

pub loop-label-preserved-in_ok-insert : goal.loop-label-preserved-in_ok-insert
loop-label-preserved-in_ok-insert c =
    let before = owned_pairs c.loop-label.pairs.entries in
    record {
      can_next = tt;
      is_finite = tt;
      left = ap (put_written (entries_left c.next.new.self))
          (ap owned_pairs c.in_ok-insert.ensures.entries
          ∙ put_pair c.loop-label.pairs.entries c.in_ok-label.label c.in_ok-parameter.parameter
          ∙ ap₂ (λ (k v : List ℕ). insert_entry (slice_cmp nat_cmp) before k v) c.in_ok-label.ensures
          c.in_ok-parameter.ensures)
          ∙ ap (λ es. put_written es before) (sym c.in-Some.ensures.steps)
          ∙ c.loop-label.invariant.left;
    }

pub loop-label-preserved : goal.loop-label-preserved
loop-label-preserved c =
    let before = owned_pairs c.loop-label.pairs.entries in
    record {
      can_next = tt;
      is_finite = tt;
      left = ap (put_written (entries_left c.next.new.self))
          (ap owned_pairs c.in_ok-insert.ensures.entries
          ∙ put_pair c.loop-label.pairs.entries c.in_ok-label.label c.in_ok-parameter.parameter
          ∙ ap₂ (λ (k v : List ℕ). insert_entry (slice_cmp nat_cmp) before k v) c.in_ok-label.ensures
          c.in_ok-parameter.ensures)
          ∙ ap (λ es. put_written es before) (sym c.in-Some.ensures.steps)
          ∙ c.loop-label.invariant.left;
    }
