-- `list QUERY WALLET`: which credentials of a wallet have what a query of one credential asks for, and which
-- cannot be read (OpenID for Verifiable Presentations 1.0, sections 6.4.1 and 7).
use Rattle.std.specs.Prelude.{ℕ, ◌+◌, List, [], ◌∷◌, ◌++◌, Bool, true, false, Result, codes}
use Rattle.std.specs.Fmt.{decimal}
use Rattle.std.specs.List.{list_any}
use Rattle.dcql_query.specs.Meaning.{query_of}
use Rattle.dcql_query.specs.Query.{Query}
use Rattle.outside.specs.declared.status.Status.TheVariants.{Done, NoOption}
use Rattle.program_steps.specs.Outcome.{Outcome, ends_with, line}
use Rattle.runs.specs.Tree.{Tree, gives, bind, each, unless}
use Rattle.wallet_files.specs.CredentialFile.{read_credential}
use Rattle.wallet_files.specs.QueryFile.{read_query, query_refusal, only}
use Rattle.wallet_files.specs.TreeLines.{match_line}
use Rattle.wallet_files.specs.Wallet.{read_wallet}
use Rattle.wallet_files.specs.declared.finding.Finding.{Finding}
use Rattle.wallet_files.specs.declared.finding.Finding.TheVariants.{Unreadable, Match, NoMatch}

-- ---- what is printed

-- for a credential with this number
abbrev pub finding_line : ℕ → Finding → List ℕ
finding_line number (Unreadable rule) =
    line (codes "note " ++ (decimal number ++ (codes " unreadable " ++ decimal rule)))
finding_line number Match = match_line number
finding_line number NoMatch = []

-- for credentials of which the first has this number
abbrev pub finding_lines : ℕ → List Finding → List ℕ
finding_lines number [] = []
finding_lines number (finding ∷ findings) = finding_line number finding ++ finding_lines (number + 1) findings

abbrev pub is_match : Finding → Bool
is_match Match = true
is_match NoMatch = false
is_match (Unreadable rule) = false

-- these lines, and `end`, or `none` where there is no match
abbrev pub list_end : Bool → List ℕ → Outcome
list_end true lines = ends_with Done (lines ++ line (codes "end"))
list_end false lines = ends_with NoOption (lines ++ line (codes "none"))

abbrev pub listed : List Finding → Outcome
listed findings = list_end (list_any is_match findings) (finding_lines 0 findings)

-- ---- the command

-- Once all files are read, the query is looked at, and then what the credentials came to is printed.
abbrev pub list_answer : Result Query ℕ → List Finding → Tree Outcome Outcome
list_answer query findings = unless (query_refusal query) (gives (listed findings))

-- The query file is read, then the wallet file, and then each credential file, in the order of the wallet.
-- The credentials are numbered from 0.
abbrev pub list_tree : List ℕ → List ℕ → Tree Outcome Outcome
list_tree query wallet =
    bind (read_query query) (λ value.
    bind (read_wallet wallet) (λ entries.
    bind (each (read_credential (only (query_of value))) entries) (λ findings.
    list_answer (query_of value) findings)))
