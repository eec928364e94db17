use Rattle.std.proofs.Common.{rules}
use Rattle.sdjwt_facts.proofs.facts.past_of.Goals as goal

pub returns : goal.returns
returns c = search rules
