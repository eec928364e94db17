use Rattle.std.proofs.Common.{◌≡◌, take, map, true}
use Rattle.base_forms.specs.Texts.{Utf8, differ}
use Rattle.sdjwt_digests.specs.code.Indexes.{own_digest, first_index, index_at}
use Rattle.sdjwt_digests.proofs.disclosures.index.Given as goal

abbrev pub invariant-loop-i : goal.invariant-loop-i
invariant-loop-i l = record {
  processed : (x : Utf8) → index_at l.order x ≡ first_index x (map own_digest (take l.i l.list));
  apart : differ (map own_digest (take l.i l.list)) ≡ true;
}
