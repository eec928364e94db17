use Rattle.runs.proofs.Presenting as law
use Rattle.runs.proofs.laws.presents_each.Goals as goal

pub returns : goal.returns
returns g c = law.presents_each _
