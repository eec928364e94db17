use Rattle.runs.proofs.Avoiding.{expects_told}
use Rattle.runs.proofs.ExpectedEnds.{ends_as_expected, ends_as_told}
use Rattle.runs.proofs.laws.ends_as_expected.Goals as goal

pub returns : goal.returns
returns g c = record { expected = ends_as_expected; told = ends_as_told; determined = expects_told }
