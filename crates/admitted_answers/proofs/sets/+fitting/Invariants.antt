use Rattle.std.proofs.Common.{length}
use Rattle.admitted_answers.proofs.sets.+fitting.Given as goal

abbrev pub decreases-fitting : goal.decreases-fitting
decreases-fitting l = length l.queries.now
