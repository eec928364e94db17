use Rattle.std.proofs.Common.{rules}
use Rattle.cbor_check.proofs.verdict.describe.Goals as goal

pub returns-in-Err-Refused : goal.returns-in-Err-Refused
returns-in-Err-Refused c = search rules
