use Rattle.std.proofs.Common.{rules}
use Rattle.sdjwt_digests.proofs.disclosure.digest_of.Goals as goal

pub returns-in-Ok : goal.returns-in-Ok
returns-in-Ok c = search rules
