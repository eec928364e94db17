use Rattle.wallet_words.proofs.Counts as counts
use Rattle.wallet_words.proofs.laws.counts_are_decimals.Goals as goal

pub returns : goal.returns
returns c = counts.counts_are_decimals
