-- The words of a command, and its tree of questions.
use Rattle.std.specs.Prelude.{ℕ, List, [], ◌∷◌, Option, Some, None, if◌then◌else◌, option_map, codes}
use Rattle.std.specs.Str.{bytes_eq}
use Rattle.program_steps.specs.Outcome.{Outcome}
use Rattle.runs.specs.Tree.{Tree}
use Rattle.wallet_top.specs.Listing.{list_tree}
use Rattle.wallet_top.specs.Try.{try_tree}

-- `try_query query trees`: which lines of the file `trees` match the query in the file `query`
-- `list_credentials query wallet`: which credentials of the file `wallet` match it
pub data Command : Type 0 where
  try_query : List ℕ → List ℕ → Command
  list_credentials : List ℕ → List ℕ → Command

-- the command that the words are
abbrev pub command_of : List (List ℕ) → Option Command
command_of (word ∷ query ∷ other ∷ []) =
    if bytes_eq word (codes "try") then Some (try_query query other)
    else (if bytes_eq word (codes "list") then Some (list_credentials query other) else None)
command_of words = None

abbrev pub tree_of : Command → Tree Outcome Outcome
tree_of (try_query query trees) = try_tree query trees
tree_of (list_credentials query wallet) = list_tree query wallet

-- the tree that the words decide, and none where they are no command
abbrev pub tree_of_words : List (List ℕ) → Option (Tree Outcome Outcome)
tree_of_words words = option_map tree_of (command_of words)
