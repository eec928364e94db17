use Rattle.wallet_words.proofs.PlainWords.{options_are_read, try_is_read}
use Rattle.wallet_words.proofs.laws.plain_words_are_read.Goals as goal

pub returns : goal.returns
returns c = record { try_command = try_is_read; options_command = options_are_read }
