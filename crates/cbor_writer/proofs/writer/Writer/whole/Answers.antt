use Rattle.std.proofs.Common.{rules}
use Rattle.cbor_writer.proofs.writer.Writer.whole.Goals as goal

pub returns-else-n-ge0-clause-ok : goal.returns-else-n-ge0-clause-ok
returns-else-n-ge0-clause-ok c = search rules
