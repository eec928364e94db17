use Rattle.std.proofs.Common.{length}
use Rattle.option_texts.proofs.answers.+add_lists.Given as goal

abbrev pub decreases-add_lists : goal.decreases-add_lists
decreases-add_lists l = length l.queries.now
