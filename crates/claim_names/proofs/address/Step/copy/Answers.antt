use Rattle.std.proofs.Common.{rules}
use Rattle.claim_names.proofs.address.Step.copy.Goals as goal

pub returns-in-Place : goal.returns-in-Place
returns-in-Place c = search rules
