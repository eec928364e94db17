-- What the commands ask for: files alone.
use Rattle.std.proofs.Common.{ℕ, List, Option, None, Some}
use Rattle.dcql_query.specs.Query.{Credential}
use Rattle.outside.specs.Store.{File, whole, longer}
use Rattle.program_steps.specs.Files.{fitting, read_file}
use Rattle.runs.specs.Counts.{Avoids}
use Rattle.runs.specs.Expected.{IsUntold}
use Rattle.runs.specs.Signed.{IsSigning}
use Rattle.runs.specs.Tree.{Question, file}
use Rattle.runs.proofs.Avoiding.{avoids_bind, avoids_gives, avoids_stops, avoids_unless, avoids_each}
use Rattle.runs.proofs.Avoiding.{avoids_needs}
use Rattle.serde_json.specs.Data.{Data}
use Rattle.wallet_top.specs.Command.{Command, try_query, list_credentials, tree_of}
use Rattle.wallet_top.specs.Laws as laws
use Rattle.wallet_files.specs.CredentialFile.{read_credential}
use Rattle.wallet_files.specs.QueryFile.{json_in, read_query}
use Rattle.wallet_files.specs.Wallet.{Entry, read_wallet}

-- no file is a question of this kind
abbrev SparesFiles : (Question → Type 0) → Type 0
SparesFiles P = (name : List ℕ) (limit : ℕ) → ¬ P (file name limit)

fits : (P : Question → Type 0) (name : List ℕ) (answer : File) → Avoids P (fitting name answer)
fits P name (whole bytes) = avoids_gives _ P bytes
fits P name longer = avoids_stops _ P _

reads : (P : Question → Type 0) → SparesFiles P → (limit : ℕ) (name : List ℕ)
    → Avoids P (read_file limit name)
reads P spares limit name = avoids_needs P (file name limit) (fitting name) (spares name limit) (fits P name)

json : (P : Question → Type 0) (name : List ℕ) (read : Option Data) → Avoids P (json_in name read)
json P name None = avoids_stops _ P _
json P name (Some value) = avoids_gives _ P value

query : (P : Question → Type 0) → SparesFiles P → (name : List ℕ) → Avoids P (read_query name)
query P spares name = avoids_bind P _ _ (reads P spares _ name) (λ bytes. json P name _)

wallet : (P : Question → Type 0) → SparesFiles P → (name : List ℕ) → Avoids P (read_wallet name)
wallet P spares name = avoids_bind P _ _ (reads P spares _ name) (λ bytes.
    avoids_unless P _ _ (avoids_gives _ P _))

credential : (P : Question → Type 0) → SparesFiles P → (wanted : Option Credential) (entry : Entry)
    → Avoids P (read_credential wanted entry)
credential P spares wanted entry =
    avoids_bind P _ _ (reads P spares _ entry.file) (λ bytes. avoids_gives _ P _)

asks_files : (P : Question → Type 0) → SparesFiles P → (command : Command) → Avoids P (tree_of command)
asks_files P spares (try_query q trees) =
    avoids_bind P _ _ (query P spares q) (λ value. avoids_bind P _ _ (reads P spares _ trees) (λ bytes.
    avoids_unless P _ _ (avoids_unless P _ _ (avoids_gives _ P _))))
asks_files P spares (list_credentials q w) =
    avoids_bind P _ _ (query P spares q) (λ value. avoids_bind P _ _ (wallet P spares w) (λ entries.
    avoids_bind P _ _ (avoids_each P _ entries (credential P spares _)) (λ findings.
    avoids_unless P _ _ (avoids_gives _ P _))))

pub signs_nothing : laws.SignsNothing
signs_nothing command = asks_files IsSigning (λ name limit is. is) command

pub asks_what_is_told : laws.AsksWhatIsTold
asks_what_is_told command = asks_files (IsUntold _) (λ name limit is. is) command
