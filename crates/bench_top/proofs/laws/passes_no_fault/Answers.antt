use Rattle.bench_top.proofs.NoFaultPassed.{passes_no_fault}
use Rattle.bench_top.proofs.laws.passes_no_fault.Goals as goal

pub returns : goal.returns
returns c = passes_no_fault
