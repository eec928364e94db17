-- Parsers are built as their definitions are.
use Rattle.std.proofs.Common.{◌||◌, ap, ap₂, ◌∙◌}
use Rattle.clap.specs.Words.{AddsArg, AddsSubcommand, App, Rule, with_rule, with_subcommand}
use Rattle.clap.specs.declared.builder.arg.Arg.{Arg}
use Rattle.clap.specs.declared.builder.command.Command.{Command}
use Rattle.wallet_words.specs.code.Parsers.{IsArgument, IsParser}

pub argued : {app : App} {rule : Rule} {old new : Command} {a : Arg} → IsParser app old → IsArgument rule a
    → AddsArg old a new → IsParser (with_rule app rule) new
argued parser argument adds = (
  adds.shape argument.1 ∙ ap₂ with_rule parser.0 argument.0,
  adds.globals ∙ ap₂ (λ x y. x || y) parser.1 argument.1,
)

pub joined : {app below : App} {old sub new : Command} → IsParser app old → IsParser below sub
    → AddsSubcommand old sub new → IsParser (with_subcommand app below.top) new
joined parser sub adds = (
  adds.shape sub.1 ∙ ap₂ with_subcommand parser.0 (ap (λ (a : App). a.top) sub.0),
  adds.globals ∙ ap₂ (λ x y. x || y) parser.1 sub.1,
)
