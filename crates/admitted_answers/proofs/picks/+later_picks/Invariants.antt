use Rattle.std.proofs.Common.{length}
use Rattle.admitted_answers.proofs.picks.+later_picks.Given as goal

abbrev pub decreases-later_picks : goal.decreases-later_picks
decreases-later_picks l = length l.picks.now
