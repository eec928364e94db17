use Rattle.std.proofs.Common.{refl}
use Rattle.dcql_rules.proofs.credential_rules.are_too_many_sets.Goals as goal

pub returns : goal.returns
returns c = refl
