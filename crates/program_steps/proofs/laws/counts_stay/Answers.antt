use Rattle.program_steps.proofs.EndLaws.{counts_never_fall, counts_stay}
use Rattle.program_steps.proofs.laws.counts_stay.Goals as goal

pub returns : goal.returns
returns c = record { never_fall = counts_never_fall; stay = counts_stay }
