use Rattle.std.proofs.Common.{length}
use Rattle.dcql_rules.proofs.ids.+has_equal_ids.Given as goal

abbrev pub decreases-has_equal_ids : goal.decreases-has_equal_ids
decreases-has_equal_ids l = length l.values.now
