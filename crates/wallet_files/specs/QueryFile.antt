-- The query file of a command that asks for one credential, and what of a query stands in its way
-- (OpenID for Verifiable Presentations 1.0, section 6).
use Rattle.std.specs.Prelude.{ℕ, List, [], ◌∷◌, Option, Some, None, is_none, if◌then◌else◌, Result, Ok, Err}
use Rattle.std.specs.Prelude.{codes}
use Rattle.dcql_query.specs.Query.{Query, Credential}
use Rattle.json_forms.specs.Text.{json_of}
use Rattle.outside.specs.declared.status.Status.TheVariants.{NotOne}
use Rattle.program_steps.specs.Files.{read_file}
use Rattle.program_steps.specs.Outcome.{Outcome, ends_with, line, file_refused, query_refused}
use Rattle.runs.specs.Tree.{Tree, gives, stops, bind}
use Rattle.serde_json.specs.Data.{Data}
use Rattle.wallet_files.specs.Limits.{file_limit}

-- the value of the file, or line 1 of it is refused
abbrev pub json_in : List ℕ → Option Data → Tree Outcome Data
json_in name None = stops (file_refused name 1)
json_in name (Some value) = gives value

-- The file is read, and must be one JSON text.
abbrev pub read_query : List ℕ → Tree Outcome Data
read_query name = bind (read_file file_limit name) (λ bytes. json_in name (json_of bytes))

-- the credential query, where there is just one
abbrev pub one_of : List Credential → Option Credential
one_of (credential ∷ []) = Some credential
one_of credentials = None

-- the same of a query, or of the least rule that is broken
abbrev pub only : Result Query ℕ → Option Credential
only (Ok query) = one_of query.credentials
only (Err rule) = None

-- there is no credential query, or more than one
abbrev pub not_one : Outcome
not_one = ends_with NotOne (line (codes "not one"))

-- what stands in its way: a rule that is broken, and then that there is not just one credential query
abbrev pub query_refusal : Result Query ℕ → Option Outcome
query_refusal (Err rule) = Some (query_refused rule)
query_refusal (Ok query) = if is_none (one_of query.credentials) then Some not_one else None
