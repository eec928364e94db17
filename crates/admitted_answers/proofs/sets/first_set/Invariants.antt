use Rattle.admitted_answers.specs.code.Sets.{IsNoSet}
use Rattle.admitted_answers.proofs.sets.first_set.Given as goal

abbrev pub invariant-loop-rank : goal.invariant-loop-rank
invariant-loop-rank l = IsNoSet l.sets l.fitting l.queries l.from l.rank
