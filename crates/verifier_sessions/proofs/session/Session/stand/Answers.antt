-- Short answers, so that an edit of the cases is refused at once.
use Rattle.std.proofs.Common.{arith}
use Rattle.std.proofs.lemmas.Grind.{common_steps}
use Rattle.verifier_sessions.proofs.session.Session.stand.Goals as goal

pub returns-then-saturating_sub-ge-PENDING : goal.returns-then-saturating_sub-ge-PENDING
returns-then-saturating_sub-ge-PENDING c = grind (arith, common_steps)

pub returns-else-saturating_sub-ge-PENDING : goal.returns-else-saturating_sub-ge-PENDING
returns-else-saturating_sub-ge-PENDING c = grind (arith, common_steps)
