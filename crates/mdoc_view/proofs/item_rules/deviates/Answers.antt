use Rattle.std.proofs.Common.{rules}
use Rattle.mdoc_view.proofs.item_rules.deviates.Goals as goal

pub returns-in-Some : goal.returns-in-Some
returns-in-Some c = search rules
