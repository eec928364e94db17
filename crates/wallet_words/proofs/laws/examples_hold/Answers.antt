use Rattle.wallet_words.proofs.Examples.{command_lines_hold, usage_lines_hold, no_words_are_usage}
use Rattle.wallet_words.proofs.laws.examples_hold.Goals as goal

pub returns : goal.returns
returns c = record { commands = command_lines_hold; usage = usage_lines_hold; none = no_words_are_usage }
