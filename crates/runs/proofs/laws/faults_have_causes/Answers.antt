use Rattle.runs.proofs.CountLaws.{faults_have_causes}
use Rattle.runs.proofs.laws.faults_have_causes.Goals as goal

pub returns : goal.returns
returns g c = faults_have_causes
