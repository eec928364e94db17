use Rattle.std.proofs.Common.{refl}
use Rattle.dcql_rules.proofs.claim_rules.are_too_many_claims.Goals as goal

pub returns : goal.returns
returns c = refl
