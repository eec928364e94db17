use Rattle.std.proofs.Common.{max, arith}
use Rattle.verifier_sessions.specs.History.{latest}
use Rattle.verifier_sessions.proofs.Counts.{ids_distinct}
use Rattle.verifier_sessions.proofs.laws.kept_sessions_differ.Goals as goal

pub returns : goal.returns
returns c = λ h moment. ids_distinct h (max moment (latest h)) (omega arith)
