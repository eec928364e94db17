use Rattle.std.proofs.Common.{rules}
use Rattle.sdjwt_digests.proofs.reserved_names.is_reserved_name.Goals as goal

pub returns-else-eq : goal.returns-else-eq
returns-else-eq c = search rules
