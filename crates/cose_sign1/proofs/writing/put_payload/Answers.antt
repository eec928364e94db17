use Rattle.std.proofs.Common.{rules}
use Rattle.cose_sign1.proofs.writing.put_payload.Goals as goal

pub returns-in_ok-bytes-in-Some : goal.returns-in_ok-bytes-in-Some
returns-in_ok-bytes-in-Some c = search rules
