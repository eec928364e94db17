use Rattle.std.proofs.Common.{rules}
use Rattle.cbor_writer.proofs.writer.Writer.text.Goals as goal

pub returns-clause-ok : goal.returns-clause-ok
returns-clause-ok c = search rules
