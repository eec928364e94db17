use Rattle.std.proofs.Common.{length}
use Rattle.option_list.proofs.entries.+picks_named.Given as goal

abbrev pub decreases-picks_named : goal.decreases-picks_named
decreases-picks_named l = length l.entries.now
