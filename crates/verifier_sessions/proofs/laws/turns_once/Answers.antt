use Rattle.verifier_sessions.proofs.Turns.{turns_once}
use Rattle.verifier_sessions.proofs.laws.turns_once.Goals as goal

pub returns : goal.returns
returns c = turns_once
