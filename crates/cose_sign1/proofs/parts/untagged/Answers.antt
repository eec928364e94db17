use Rattle.std.proofs.Common.{rules}
use Rattle.cose_sign1.proofs.parts.untagged.Goals as goal

pub returns-in_default : goal.returns-in_default
returns-in_default c = search rules
