use Rattle.wallet_top.proofs.Asking.{asks_what_is_told}
use Rattle.wallet_top.proofs.laws.asks_what_is_told.Goals as goal

pub returns : goal.returns
returns c = asks_what_is_told
