use Rattle.runs.proofs.CountLaws.{counts_never_fall, counts_stay}
use Rattle.runs.proofs.laws.counts_stay.Goals as goal

pub returns : goal.returns
returns g c = record { never_fall = counts_never_fall; stay = counts_stay }
