use Rattle.program_steps.proofs.EndLaws.{ends_complete, ends_as_told}
use Rattle.program_steps.proofs.laws.ends_complete.Goals as goal

pub returns : goal.returns
returns c = record { complete = ends_complete; told = ends_as_told }
