use Rattle.std.proofs.Common.{rules}
use Rattle.cose_sign1.proofs.writing.protected.Goals as goal

pub returns : goal.returns
returns c = search rules
