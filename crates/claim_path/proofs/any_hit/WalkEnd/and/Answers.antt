use Rattle.std.proofs.Common.{rules}
use Rattle.claim_path.proofs.any_hit.WalkEnd.and.Goals as goal

pub returns-in_default : goal.returns-in_default
returns-in_default c = search rules
