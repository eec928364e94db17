use Rattle.mdoc_dates.proofs.Texts.{texts_read}
use Rattle.mdoc_dates.proofs.laws.text_is_read.Goals as goal

pub returns : goal.returns
returns c = texts_read
