-- What holds of the commands of the wallet.
use Rattle.std.specs.Prelude.{true}
use Rattle.runs.specs.Counts.{Avoids, Insists}
use Rattle.runs.specs.Expected.{IsUntold}
use Rattle.runs.specs.Signed as runs
use Rattle.wallet_top.specs.Command.{Command, tree_of}

-- No command passes over a fault.
abbrev pub PassesNoFault : Type 0
PassesNoFault = (command : Command) → Insists (tree_of command)

-- No command asks for a signature.
abbrev pub SignsNothing : Type 0
SignsNothing = (command : Command) → runs.SignsNothing (tree_of command)

-- Where the clock tells its moments, no command asks for anything that the objects do not tell.
abbrev pub AsksWhatIsTold : Type 0
AsksWhatIsTold = (command : Command) → Avoids (IsUntold true) (tree_of command)
