-- What the parsers in memory are.
use Rattle.std.specs.Prelude.{◌≡◌, false}
use Rattle.clap.specs.Words.{App, Rule, app_of, rule_of}
use Rattle.clap.specs.declared.builder.arg.Arg.{Arg}
use Rattle.clap.specs.declared.builder.command.Command.{Command}
use Rattle.clap.specs.declared.builder.command.Command.TheViews.{out-Command}

-- it is read by this rule, and is of its own command alone
abbrev pub IsArgument : Rule → Arg → Type 0
IsArgument rule a = (rule_of a ≡ rule) × (a.global ≡ false)

-- it is this command, and none of its arguments is one of another
abbrev pub IsParser : App → Command → Type 0
IsParser app c = (app_of c ≡ app) × ((out-Command c).has_globals ≡ false)
