use Rattle.std.proofs.Common.{rules}
use Rattle.cbor_check.proofs.answers.add_verdict.Goals as goal

pub returns-in-Refused : goal.returns-in-Refused
returns-in-Refused c = search rules
