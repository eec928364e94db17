-- The words by example are what they are said to be.
use Rattle.std.proofs.Common.{refl}
use Rattle.std.specs.Fmt.{digits}
use Rattle.clap.proofs.OnLiterals.{clap_on_literals}
use Rattle.wallet_words.specs.Command.{command_of}
use Rattle.wallet_words.specs.Examples.{CommandLinesHold, UsageLinesHold, NoWordsAreUsage}

pub command_lines_hold : CommandLinesHold
unfolding clap_on_literals command_of digits
command_lines_hold = refl

pub usage_lines_hold : UsageLinesHold
unfolding clap_on_literals command_of digits
usage_lines_hold = refl

pub no_words_are_usage : NoWordsAreUsage
unfolding clap_on_literals command_of digits
no_words_are_usage = refl
