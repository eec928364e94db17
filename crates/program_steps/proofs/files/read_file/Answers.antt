use Rattle.std.proofs.Common.{rules}
use Rattle.runs.specs.Runs.{Runs}
use Rattle.program_steps.proofs.files.read_file.Goals as goal

pub returns-in-Ok : goal.returns-in-Ok
unfolding Runs
returns-in-Ok g c = search rules

pub returns-in-Err-Failed : goal.returns-in-Err-Failed
unfolding Runs
returns-in-Err-Failed g c = search rules

pub returns-in-Err-NoMemory : goal.returns-in-Err-NoMemory
unfolding Runs
returns-in-Err-NoMemory g c = search rules
