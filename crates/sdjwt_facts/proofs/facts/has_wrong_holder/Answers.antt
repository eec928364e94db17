use Rattle.std.proofs.Common.{rules}
use Rattle.sdjwt_facts.proofs.facts.has_wrong_holder.Goals as goal

pub returns-in-Some : goal.returns-in-Some
returns-in-Some c = search rules
