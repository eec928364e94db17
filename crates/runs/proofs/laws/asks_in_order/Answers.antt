use Rattle.runs.proofs.AskedInOrder.{asks_in_order}
use Rattle.runs.proofs.laws.asks_in_order.Goals as goal

pub returns : goal.returns
returns g c = asks_in_order
