use Rattle.std.proofs.Common.{length}
use Rattle.dcql_answers.proofs.answer.+picks_order.Given as goal

abbrev pub decreases-picks_order : goal.decreases-picks_order
decreases-picks_order l = length l.one.now
