use Rattle.std.proofs.Common.{rules}
use Rattle.cbor_check.proofs.run.answer_text.Goals as goal

pub returns-in-Ok-write_all-clause-answered : goal.returns-in-Ok-write_all-clause-answered
returns-in-Ok-write_all-clause-answered c = search rules
