use Rattle.wallet_top.proofs.Asking.{signs_nothing}
use Rattle.wallet_top.proofs.laws.signs_nothing.Goals as goal

pub returns : goal.returns
returns c = signs_nothing
