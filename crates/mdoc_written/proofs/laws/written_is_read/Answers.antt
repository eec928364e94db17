use Rattle.mdoc_written.proofs.Items.{items_read}
use Rattle.mdoc_written.proofs.Values.{elements_read}
use Rattle.mdoc_written.proofs.laws.written_is_read.Goals as goal

pub returns : goal.returns
returns c = record { elements = elements_read; items = items_read }
