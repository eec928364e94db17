-- The file of claim trees, one a line, and the lines whose tree has what a credential query asks for
-- (OpenID for Verifiable Presentations 1.0, sections 6.4.1 and 7).
use Rattle.std.specs.Prelude.{ℕ, ◌+◌, List, [], ◌∷◌, ◌++◌, Bool, false, Option, Some, is_none, if◌then◌else◌}
use Rattle.std.specs.Prelude.{codes}
use Rattle.std.specs.Fmt.{decimal}
use Rattle.std.specs.Option.{option_map_or}
use Rattle.std.specs.Str.{is_utf8}
use Rattle.base_forms.specs.Lines.{lines_of, first_bad}
use Rattle.claim_tree.specs.Accepted.{accepted}
use Rattle.claim_tree.specs.Tree.{Tree}
use Rattle.dcql_query.specs.Query.{Credential}
use Rattle.program_steps.specs.Outcome.{line}
use Rattle.wallet_files.specs.Limits.{most_lines}
use Rattle.wallet_files.specs.Met.{is_met}

-- ---- the trees file

-- the number of the first line that is no claim tree, or stands past the limit; the first of these lines has
-- this number
abbrev pub bad_line : ℕ → List (List ℕ) → Option ℕ
bad_line number texts = first_bad most_lines (λ text. is_none (accepted text)) number texts

-- the file is a text whose lines are claim trees, else its first line that is none is refused, or line 1
-- where it is no text
abbrev pub bad_trees : List ℕ → Option ℕ
bad_trees bytes = if is_utf8 bytes then bad_line 1 (lines_of bytes) else Some 1

-- ---- matches

-- the tree has what is wanted, if anything is
abbrev pub has_wanted : Option Credential → Tree → Bool
has_wanted wanted tree = option_map_or (λ credential. is_met credential tree) wanted false

-- the line's tree has what is wanted
abbrev pub is_match : Option Credential → List ℕ → Bool
is_match wanted text = option_map_or (has_wanted wanted) (accepted text) false

-- the numbers of the lines that match, where the first of these lines has this number
abbrev pub matching : Option Credential → ℕ → List (List ℕ) → List ℕ
matching wanted number [] = []
matching wanted number (text ∷ texts) =
    if is_match wanted text then number ∷ matching wanted (number + 1) texts else matching wanted
    (number + 1) texts

-- the line of a number that matches
abbrev pub match_line : ℕ → List ℕ
match_line number = line (codes "match " ++ decimal number)

abbrev pub match_lines : List ℕ → List ℕ
match_lines [] = []
match_lines (number ∷ numbers) = match_line number ++ match_lines numbers
