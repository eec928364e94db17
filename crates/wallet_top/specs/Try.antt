-- `try QUERY TREES`: the numbers of the lines whose claim tree has what a query of one credential asks for
-- (OpenID for Verifiable Presentations 1.0, sections 6.4.1 and 7).
use Rattle.std.specs.Prelude.{ℕ, List, [], ◌∷◌, ◌++◌, Result, option_map, codes}
use Rattle.base_forms.specs.Lines.{lines_of}
use Rattle.dcql_query.specs.Meaning.{query_of}
use Rattle.dcql_query.specs.Query.{Query}
use Rattle.outside.specs.declared.status.Status.TheVariants.{Done, NoOption}
use Rattle.program_steps.specs.Files.{read_file}
use Rattle.program_steps.specs.Outcome.{Outcome, ends_with, line, file_refused}
use Rattle.runs.specs.Tree as runs
use Rattle.runs.specs.Tree.{gives, bind, unless}
use Rattle.wallet_files.specs.Limits.{file_limit}
use Rattle.wallet_files.specs.QueryFile.{read_query, query_refusal, only}
use Rattle.wallet_files.specs.TreeLines.{bad_trees, matching, match_lines}

-- ---- what is printed

-- these lines match: their numbers and `end`, or `none` alone
abbrev pub found : List ℕ → Outcome
found [] = ends_with NoOption (line (codes "none"))
found (number ∷ numbers) = ends_with Done (match_lines (number ∷ numbers) ++ line (codes "end"))

-- ---- the command

-- What the lines of the trees file come to, which must be claim trees. Then the query is looked at. The lines
-- are numbered from 0.
abbrev pub try_lines : List ℕ → Result Query ℕ → List ℕ → runs.Tree Outcome Outcome
try_lines trees query bytes =
    unless (option_map (file_refused trees) (bad_trees bytes))
    (unless (query_refusal query)
    (gives (found (matching (only query) 0 (lines_of bytes)))))

-- The query file is read, and then the trees file.
abbrev pub try_tree : List ℕ → List ℕ → runs.Tree Outcome Outcome
try_tree query trees =
    bind (read_query query) (λ value.
    bind (read_file file_limit trees) (λ bytes.
    try_lines trees (query_of value) bytes))
