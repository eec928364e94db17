use Rattle.program_steps.proofs.EndLaws.{statuses_have_causes}
use Rattle.program_steps.proofs.laws.statuses_have_causes.Goals as goal

pub returns : goal.returns
returns c = statuses_have_causes
