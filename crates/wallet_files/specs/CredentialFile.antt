-- What a credential file comes to: whether it can be read, and whether its claim tree has what a credential
-- query asks for (SD-JWT VC and RFC 9901; ISO/IEC 18013-5; OpenID for Verifiable Presentations 1.0, section
-- 6.4.1).
use Rattle.std.specs.Prelude.{ℕ, ◌==◌, List, [], ◌∷◌, Option, Some, None, if◌then◌else◌}
use Rattle.std.specs.Option.{option_map_or}
use Rattle.std.specs.Str.{is_utf8}
use Rattle.base_forms.specs.Url64.{url64_bytes}
use Rattle.claim_tree.specs.Credential as claims
use Rattle.claim_tree.specs.Tree.{Tree}
use Rattle.claim_tree.specs.declared.facts.Format.{Format}
use Rattle.claim_tree.specs.declared.facts.Format.TheVariants.{SdJwt, Mdoc}
use Rattle.dcql_query.specs.Query.{Credential}
use Rattle.mdoc_view.specs.Reading as mdoc
use Rattle.mdoc_view.specs.Refusal as md
use Rattle.program_steps.specs.Files.{read_file}
use Rattle.program_steps.specs.Outcome.{Outcome}
use Rattle.runs.specs.Tree as runs
use Rattle.runs.specs.Tree.{gives, bind}
use Rattle.sdjwt_view.specs.Reading as sd
use Rattle.wallet_files.specs.Limits.{credential_limit}
use Rattle.wallet_files.specs.Met.{is_met}
use Rattle.wallet_files.specs.Wallet.{Entry}
use Rattle.wallet_files.specs.declared.finding.Finding.{Finding}
use Rattle.wallet_files.specs.declared.finding.Finding.TheVariants.{Unreadable, Match, NoMatch}

-- ---- what a credential comes to

-- a credential that is read, with this claim tree
abbrev pub tree_finding : Credential → Tree → Finding
tree_finding wanted tree = if is_met wanted tree then Match else NoMatch

-- the number of the rule by which a text is no SD-JWT credential: the second where its issuer's message is
-- refused
abbrev pub sd_rule : sd.Refusal → ℕ
sd_rule (sd.refused rule) = rule
sd_rule (sd.envelope rule) = 2

abbrev pub sd_reading : Credential → Option sd.Refusal → Option claims.Credential → Finding
sd_reading wanted (Some refusal) credential = Unreadable (sd_rule refusal)
sd_reading wanted None credential = option_map_or (λ c. tree_finding wanted c.tree) credential NoMatch

-- an SD-JWT credential, by its text
abbrev pub sd_finding : Credential → List ℕ → Finding
sd_finding wanted text = sd_reading wanted (sd.refusal_of text) (sd.credential_in text)

-- the number of the rule by which bytes are no mobile document: the first where they are refused as CBOR, the
-- third where their issuer's message is
abbrev pub mdoc_rule : md.Refusal → ℕ
mdoc_rule (md.refused rule) = rule
mdoc_rule (md.cbor rule) = 1
mdoc_rule (md.cose rule) = 3

abbrev pub mdoc_reading : Credential → Option md.Refusal → Option claims.Credential → Finding
mdoc_reading wanted (Some refusal) credential = Unreadable (mdoc_rule refusal)
mdoc_reading wanted None credential = option_map_or (λ c. tree_finding wanted c.tree) credential NoMatch

-- a mobile document, by its bytes
abbrev pub bytes_finding : Credential → List ℕ → Finding
bytes_finding wanted bytes = mdoc_reading wanted (md.refusal_of bytes) (mdoc.credential_in bytes)

-- ---- a credential file

-- a text without the line feed at its end, if it has one
abbrev pub without_feed : List ℕ → List ℕ
without_feed [] = []
without_feed (byte ∷ []) = if byte == 10 then [] else byte ∷ []
without_feed (byte ∷ next ∷ bytes) = byte ∷ without_feed (next ∷ bytes)

-- the bytes of which a file's text is the base64url
abbrev pub document_in : List ℕ → Option (List ℕ)
document_in bytes = if is_utf8 bytes then url64_bytes (without_feed bytes) else None

-- The text may end in one line feed.
abbrev pub file_finding : Format → Credential → List ℕ → Finding
file_finding SdJwt wanted bytes = if is_utf8 bytes then sd_finding wanted
    (without_feed bytes) else Unreadable 0
file_finding Mdoc wanted bytes = option_map_or (bytes_finding wanted) (document_in bytes) (Unreadable 0)

-- what a credential file comes to; nothing is looked at where nothing is wanted
abbrev pub finding_for : Option Credential → Format → List ℕ → Finding
finding_for None format bytes = NoMatch
finding_for (Some wanted) format bytes = file_finding format wanted bytes

-- The file of an entry of the wallet is read.
abbrev pub read_credential : Option Credential → Entry → runs.Tree Outcome Finding
read_credential wanted entry = bind (read_file credential_limit entry.file) (λ bytes.
    gives (finding_for wanted entry.format bytes))
