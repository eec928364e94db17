use Rattle.std.proofs.Common.{rules}
use Rattle.base_forms.specs.Rules.{rule}
use Rattle.cose_sign1.specs.Sign1.{sign1_rule}
use Rattle.cose_sign1.proofs.sign1.Sign1.read.Goals as goal

pub returns-in_default-algorithm_in-clause-refused : goal.returns-in_default-algorithm_in-clause-refused
unfolding rule sign1_rule
returns-in_default-algorithm_in-clause-refused c = search rules
