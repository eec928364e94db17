use Rattle.std.proofs.Common.{rules}
use Rattle.sdjwt_disclosures.proofs.site_kinds.is_mismatch.Goals as goal

pub returns-in-Some-find : goal.returns-in-Some-find
returns-in-Some-find c = search rules
