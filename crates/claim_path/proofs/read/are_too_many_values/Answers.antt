use Rattle.std.proofs.Common.{refl}
use Rattle.claim_path.proofs.read.are_too_many_values.Goals as goal

pub returns : goal.returns
returns c = refl
