use Rattle.runs.proofs.Signing.{held_stays, judged_only_adds}
use Rattle.runs.proofs.laws.keys_stay.Goals as goal

pub returns : goal.returns
returns g c = record { held = held_stays; judged = judged_only_adds }
