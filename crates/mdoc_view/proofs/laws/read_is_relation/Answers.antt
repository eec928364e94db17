use Rattle.mdoc_view.proofs.Law.{reads_computed, computed_reads, unbroken_says, reads_one}
use Rattle.mdoc_view.proofs.laws.read_is_relation.Goals as goal

pub returns : goal.returns
returns c = record
    { computed = reads_computed; read = computed_reads; unbroken = unbroken_says; one = reads_one }
