use Rattle.std.proofs.Common.{rules}
use Rattle.cose_sign1.proofs.sign1.Sign1.issuer_name.Goals as goal

pub returns : goal.returns
returns c = search rules
