use Rattle.std.proofs.Common.{length}
use Rattle.dcql_answers.proofs.answer.+sets_order.Given as goal

abbrev pub decreases-sets_order : goal.decreases-sets_order
decreases-sets_order l = length l.one.now
