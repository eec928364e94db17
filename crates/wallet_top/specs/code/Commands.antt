-- What the code has read of the words.
use Rattle.wallet_top.specs.Command.{Command, try_query, list_credentials}
use Rattle.wallet_top.specs.declared.command.Command as code
use Rattle.wallet_top.specs.declared.command.Command.TheVariants.{Try, List}

abbrev pub meaning : code.Command → Command
meaning (Try query trees) = try_query query.now trees.now
meaning (List query wallet) = list_credentials query.now wallet.now
