use Rattle.program_steps.proofs.EndLaws.{asks_in_order}
use Rattle.program_steps.proofs.laws.asks_in_order.Goals as goal

pub returns : goal.returns
returns c = asks_in_order
