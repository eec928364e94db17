use Rattle.std.proofs.Common.{rules}
use Rattle.sdjwt_disclosures.proofs.processing.is_plain_only.Goals as goal

pub returns-else-eq-6 : goal.returns-else-eq-6
returns-else-eq-6 c = search rules
