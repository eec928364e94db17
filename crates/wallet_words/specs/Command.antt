-- The command that the words after the program's name are.
use Rattle.std.specs.Prelude.{ℕ, List, [], ◌∷◌, Option, None, if◌then◌else◌, option_map}
use Rattle.std.specs.Prelude.{option_and_then, codes}
use Rattle.std.specs.Str.{bytes_eq}
use Rattle.clap.specs.Words.{Kinds, Row, Text, fault_of, first_of, subcommand_of}
use Rattle.wallet_words.specs.Count.{count_asked}
use Rattle.wallet_words.specs.Parser.{wallet_parser}

-- `try_query query trees`: which lines of the file `trees` match the query in the file `query`
-- `options request wallet clients after count`: which options the credentials of the file `wallet` leave for
-- the request in the file `request`, by the clients of the file `clients`; at most `count` of them, the
-- first ones, or those that follow the token `after`
pub data Command : Type 0 where
  try_query : Text → Text → Command
  options : Text → Text → Text → Option Text → ℕ → Command

abbrev pub try_in : List Row → Option Command
try_in rows =
    option_and_then (λ query. option_map (λ trees. try_query query trees) (first_of (codes "trees") rows))
    (first_of (codes "query") rows)

abbrev pub options_in : List Row → Option Command
options_in rows =
    option_and_then (λ request. option_and_then (λ wallet. option_and_then (λ clients.
    option_map (λ count. options request wallet clients (first_of (codes "after") rows) count)
    (count_asked (first_of (codes "count") rows))) (first_of (codes "clients") rows))
    (first_of (codes "wallet") rows)) (first_of (codes "request") rows)

-- the command of this name, with these values
abbrev pub named : Text → List Row → Option Command
named name rows =
    if bytes_eq name (codes "try") then try_in rows
    else (if bytes_eq name (codes "options") then options_in rows else None)

abbrev pub command_in : Option (Text × List Row) → Option Command
command_in found = option_and_then (λ p. named p.0 p.1) found

abbrev pub if_faultless : Kinds → Option Command → Option Command
if_faultless [] command = command
if_faultless (kind ∷ kinds) command = None

-- What the crate `clap` finds in the words, where it finds no fault in them. Whether words are taken, and
-- which word is which, is `clap`'s own definition of what a simple command makes of its words.
unfoldable pub command_of : List Text → Option Command
command_of words =
    if_faultless (fault_of wallet_parser words) (command_in (subcommand_of wallet_parser words))
