-- Words by example: what some lines of them are, each cut at its blanks.
use Rattle.std.specs.Prelude.{◌≡◌, ◌==◌, ℕ, List, [], ◌∷◌, Option, Some, None, codes, map}
use Rattle.std.specs.List.{slice_split}
use Rattle.wallet_words.specs.Command.{Command, command_of, options, try_query}

abbrev pub command_in_line : List ℕ → Option Command
command_in_line line = command_of (slice_split (λ b. b == 32) line)

-- the files r, w and c, after no token
abbrev pub first_options : ℕ → Command
first_options count = options (codes "r") (codes "w") (codes "c") None count

abbrev pub options_after : List ℕ → Command
options_after token = options (codes "r") (codes "w") (codes "c") (Some token) 20

abbrev pub command_lines : List (List ℕ × Command)
command_lines = (codes "try q t", try_query (codes "q") (codes "t"))
    ∷ (codes "options r w c", first_options 20)
    ∷ (codes "options r w c --count=3", first_options 3)
    ∷ (codes "options r w c --count 3", first_options 3)
    ∷ (codes "options --count 3 r w c", first_options 3)
    ∷ (codes "options r --count 3 w c", first_options 3)
    ∷ (codes "options --count 3 -- r w c", first_options 3)
    ∷ (codes "options r w c --count 1000", first_options 1000)
    ∷ (codes "options r w c --after m:38.0", options_after (codes "m:38.0"))
    ∷ (codes "options --after=m:38.0 r w c", options_after (codes "m:38.0"))
    ∷ (codes "options r w c --after=-t", options_after (codes "-t"))
    ∷ (codes "options r w c --after=", options_after [])
    ∷ (codes "options -- r -w --count", options (codes "r") (codes "-w") (codes "--count") None 20)
    ∷ []

abbrev pub CommandLinesHold : Type 0
CommandLinesHold = map (λ row. command_in_line row.0) command_lines ≡ map (λ row. Some row.1) command_lines

abbrev pub usage_lines : List (List ℕ)
usage_lines = codes ""
    ∷ codes "list q w"
    ∷ codes "answer r w c --option a:0.0"
    ∷ codes "TRY q t"
    ∷ codes "try q"
    ∷ codes "try q t u"
    ∷ codes "try q t --count 3"
    ∷ codes "options r w"
    ∷ codes "options r w c d"
    ∷ codes "options r w c --count 3 --count 3"
    ∷ codes "options r w c --count"
    ∷ codes "options r w c --count="
    ∷ codes "options r w c --count 0"
    ∷ codes "options r w c --count 007"
    ∷ codes "options r w c --count 1001"
    ∷ codes "options r w c --count +3"
    ∷ codes "options r w c --count x"
    ∷ codes "options r w c --after -t"
    ∷ codes "options r w c --after a --after b"
    ∷ codes "options -r w c"
    ∷ codes "--count 3 options r w c"
    ∷ codes "-- try q t"
    ∷ codes "help"
    ∷ codes "--help"
    ∷ codes "try --help"
    ∷ codes "--version"
    ∷ []

abbrev pub UsageLinesHold : Type 0
UsageLinesHold = map command_in_line usage_lines ≡ map (λ line. None) usage_lines

abbrev pub NoWordsAreUsage : Type 0
NoWordsAreUsage = command_of [] ≡ None
