-- No command passes over a fault.
use Rattle.std.proofs.Common.{ℕ, List, Option, None, Some}
use Rattle.dcql_query.specs.Query.{Credential}
use Rattle.outside.specs.Store.{File, whole, longer}
use Rattle.program_steps.specs.Files.{fitting, read_file}
use Rattle.runs.specs.Counts.{Insists}
use Rattle.runs.proofs.Insisting.{insists_bind, insists_gives, insists_stops, insists_unless, insists_each}
use Rattle.serde_json.specs.Data.{Data}
use Rattle.wallet_top.specs.Command.{try_query, list_credentials}
use Rattle.wallet_top.specs.Laws.{PassesNoFault}
use Rattle.wallet_files.specs.CredentialFile.{read_credential}
use Rattle.wallet_files.specs.QueryFile.{json_in, read_query}
use Rattle.wallet_files.specs.Wallet.{Entry, read_wallet}

fits : (name : List ℕ) (answer : File) → Insists (fitting name answer)
fits name (whole bytes) = insists_gives _ bytes
fits name longer = insists_stops _ _

reads : (limit : ℕ) (name : List ℕ) → Insists (read_file limit name)
unfolding Insists
reads limit name = fits name

json : (name : List ℕ) (read : Option Data) → Insists (json_in name read)
json name None = insists_stops _ _
json name (Some value) = insists_gives _ value

query : (name : List ℕ) → Insists (read_query name)
query name = insists_bind _ _ (reads _ name) (λ bytes. json name _)

wallet : (name : List ℕ) → Insists (read_wallet name)
wallet name = insists_bind _ _ (reads _ name) (λ bytes. insists_unless _ _ (insists_gives _ _))

credential : (wanted : Option Credential) (entry : Entry) → Insists (read_credential wanted entry)
credential wanted entry = insists_bind _ _ (reads _ entry.file) (λ bytes. insists_gives _ _)

pub passes_no_fault : PassesNoFault
passes_no_fault (try_query q trees) =
    insists_bind _ _ (query q) (λ value. insists_bind _ _ (reads _ trees) (λ bytes.
    insists_unless _ _ (insists_unless _ _ (insists_gives _ _))))
passes_no_fault (list_credentials q w) =
    insists_bind _ _ (query q) (λ value. insists_bind _ _ (wallet w) (λ entries.
    insists_bind _ _ (insists_each _ entries (credential _)) (λ findings.
    insists_unless _ _ (insists_gives _ _))))
