use Rattle.std.proofs.Common.{length}
use Rattle.dcql_query.proofs.read_sets.+option_bits.Given as goal

abbrev pub decreases-option_bits : goal.decreases-option_bits
decreases-option_bits l = length l.queries.now
