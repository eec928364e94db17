use Rattle.std.proofs.Common.{length}
use Rattle.admitted_answers.proofs.lists.+later_lists.Given as goal

abbrev pub decreases-later_lists : goal.decreases-later_lists
decreases-later_lists l = length l.lists.now
