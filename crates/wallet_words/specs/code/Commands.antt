-- What the code has read of the words.
use Rattle.std.specs.Prelude.{option_map}
use Rattle.wallet_words.specs.Command.{Command, try_query, options}
use Rattle.wallet_words.specs.declared.command.Command as code
use Rattle.wallet_words.specs.declared.command.Command.TheVariants.{Try, Options}

abbrev pub meaning : code.Command → Command
meaning (Try query trees) = try_query query.now trees.now
meaning (Options request wallet clients after count) =
    options request.now wallet.now clients.now (option_map (λ s. s.now) after) count
