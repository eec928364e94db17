use Rattle.std.proofs.Common.{length}
use Rattle.dcql_answers.proofs.answer.+lists_order.Given as goal

abbrev pub decreases-lists_order : goal.decreases-lists_order
decreases-lists_order l = length l.one.now
