-- A short answer, so that an edit of the last line is refused at once.
use Rattle.std.proofs.Common.{rules}
use Rattle.wallet_top.proofs.listing.listed.Goals as goal

pub returns-else-has_match : goal.returns-else-has_match
returns-else-has_match c = search rules
