-- The commands that the words may be, as the crate `clap` sees them.
use Rattle.std.specs.Prelude.{true, Some, codes}
use Rattle.clap.specs.Words.{App, Rule, Shape, Text, new_app, new_rule, with_rule, with_subcommand}

-- a word that has to be there, and is named by its place
abbrev pub file : Text → Rule
file name = record (new_rule name) { required = true }

-- `--name` with a value, which may be left out
abbrev pub option : Text → Rule
option name = record (new_rule name) { long = Some name }

abbrev pub try_parser : App
try_parser = with_rule (with_rule (new_app (codes "try")) (file (codes "query"))) (file (codes "trees"))

abbrev pub options_parser : App
options_parser =
    with_rule
    (with_rule
    (with_rule
    (with_rule (with_rule (new_app (codes "options")) (file (codes "request"))) (file (codes "wallet")))
    (file (codes "clients"))) (option (codes "after"))) (option (codes "count"))

-- The words are those after the program's name. There is no help and no version, and one of the commands
-- has to be named.
abbrev pub bare : Shape → Shape
bare s = record s {
  no_binary_name = true;
  disable_help_flag = true;
  disable_help_subcommand = true;
  disable_version_flag = true;
  subcommand_required = true;
}

abbrev pub bare_parser : App
bare_parser = record (new_app (codes "vpwallet")) { top = bare (new_app (codes "vpwallet")).top }

abbrev pub wallet_parser : App
wallet_parser = with_subcommand (with_subcommand bare_parser try_parser.top) options_parser.top
