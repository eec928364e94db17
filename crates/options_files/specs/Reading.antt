-- How the files are read from which options are found: the request, the clients, the wallet file, and the
-- credential files that it names (OpenID4VP 1.0, sections 5 and 5.9).
use Rattle.std.specs.Prelude.{ℕ, List, Result, Ok, Err, if◌then◌else◌}
use Rattle.std.specs.Option.{ok_or}
use Rattle.std.specs.Str.{is_utf8}
use Rattle.program_steps.specs.Files.{read_file, file_limit}
use Rattle.program_steps.specs.Outcome.{Outcome, file_refused}
use Rattle.request_clients.specs.Clients.{Client, clients_in}
use Rattle.runs.specs.Tree.{Tree, gives, stops, bind, each}
use Rattle.wallet_files.specs.Limits.{credential_limit}
use Rattle.wallet_files.specs.Wallet.{Entry, read_wallet}
use Rattle.options_files.specs.Contents.{Content, text_in, content_of}

-- what a file of this name holds, or its refusal by the line of this number
abbrev pub or_refused : {A : Type 0} → List ℕ → Result A ℕ → Tree Outcome A
or_refused name (Ok held) = gives held
or_refused name (Err line) = stops (file_refused name line)

-- ---- the request

-- The file is read, and must be a text.
abbrev pub read_request : List ℕ → Tree Outcome (List ℕ)
read_request name = bind (read_file file_limit name) (λ bytes. or_refused name (ok_or (text_in bytes) 1))

-- ---- the clients

-- the clients of a file with these bytes, or the number of its first line that is refused
abbrev pub clients_of_file : List ℕ → Result (List Client) ℕ
clients_of_file bytes = if is_utf8 bytes then clients_in bytes else Err 1

-- The file is read, and its lines must be clients.
abbrev pub read_clients : List ℕ → Tree Outcome (List Client)
read_clients name = bind (read_file file_limit name) (λ bytes. or_refused name (clients_of_file bytes))

-- ---- the credentials

-- The file of an entry of the wallet is read.
abbrev pub read_content : Entry → Tree Outcome Content
read_content entry = bind (read_file credential_limit entry.file) (λ bytes.
    gives (content_of entry.format bytes))

-- The wallet file is read, and then the file of each of its entries.
abbrev pub read_credentials : List ℕ → Tree Outcome (List Content)
read_credentials name = bind (read_wallet name) (λ entries. each read_content entries)

-- ---- all

-- what the files hold
pub record Files : Type 0 where
  pub request : List ℕ
  pub clients : List Client
  pub credentials : List Content

abbrev pub files : List ℕ → List Client → List Content → Files
files request clients credentials =
    record { request = request; clients = clients; credentials = credentials }

-- The request is read, and then the clients and the credentials, by these names of their files.
abbrev pub read_files : List ℕ → List ℕ → List ℕ → Tree Outcome Files
read_files request clients wallet =
    bind (read_request request) (λ text.
    bind (read_clients clients) (λ known.
    bind (read_credentials wallet) (λ held.
    gives (files text known held))))
