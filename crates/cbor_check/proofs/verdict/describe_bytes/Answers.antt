use Rattle.std.proofs.Common.{rules}
use Rattle.cbor_check.proofs.verdict.describe_bytes.Goals as goal

pub returns-in-Ok : goal.returns-in-Ok
returns-in-Ok c = search rules

pub returns-in-Err-Refused : goal.returns-in-Err-Refused
returns-in-Err-Refused c = search rules
