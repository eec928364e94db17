use Rattle.program_steps.proofs.EndLaws.{held_stays, judged_only_adds}
use Rattle.program_steps.proofs.laws.keys_stay.Goals as goal

pub returns : goal.returns
returns c = record { held = held_stays; judged = judged_only_adds }
