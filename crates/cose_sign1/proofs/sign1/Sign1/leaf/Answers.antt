use Rattle.std.proofs.Common.{rules}
use Rattle.cose_sign1.proofs.sign1.Sign1.leaf.Goals as goal

pub returns-in-Some : goal.returns-in-Some
returns-in-Some c = search rules
