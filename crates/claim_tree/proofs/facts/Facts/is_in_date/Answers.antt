use Rattle.std.proofs.Common.{rules}
use Rattle.claim_tree.proofs.facts.Facts.is_in_date.Goals as goal

pub returns-in-Some : goal.returns-in-Some
returns-in-Some c = search rules
