use Rattle.sdjwt_view.proofs.Law.{reads_computed, computed_reads, reads_one}
use Rattle.sdjwt_view.proofs.laws.read_is_relation.Goals as goal

pub returns : goal.returns
returns c = record { computed = reads_computed; read = computed_reads; one = reads_one }
