use Rattle.verifier_sessions.proofs.Apart.{stand_apart}
use Rattle.verifier_sessions.proofs.laws.sessions_stand_apart.Goals as goal

pub returns : goal.returns
returns c = stand_apart
