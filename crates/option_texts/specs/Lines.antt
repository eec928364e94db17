-- The answers of a page as a user sees them: for each answer its token, for each of its picks the credential,
-- and for each pick what it shows (OpenID4VP 1.0, section 6). The lines are a text of this product's own.
use Rattle.std.specs.Prelude.{◌≡◌, ℕ, nat_lt, Bool, true, false, List, [], ◌∷◌, ◌++◌, length, slice_get}
use Rattle.std.specs.Prelude.{Option, Some, None, Ok, Err, if◌then◌else◌, codes}
use Rattle.std.specs.Fmt.{decimal}
use Rattle.std.specs.List.{flat_map}
use Rattle.std.specs.Option.{option_and_then, option_map_or}
use Rattle.serde_json.specs.Data.{string}
use Rattle.serde_json.specs.Written.{compact_text}
use Rattle.claim_tree.specs.Credential.{Credential}
use Rattle.claim_tree.specs.declared.facts.Format.{Format}
use Rattle.claim_tree.specs.declared.facts.Format.TheVariants.{SdJwt, Mdoc}
use Rattle.credential_matching.specs.Shown.{shown}
use Rattle.dcql_answers.specs.declared.pick.Pick.{Pick}
use Rattle.dcql_query.specs.Query.{Query}
use Rattle.dcql_query.specs.Query.{Credential as CredentialQuery}
use Rattle.fit_table.specs.Slot.{Stands}
use Rattle.option_list.specs.Token.{token_of}
use Rattle.option_texts.specs.Addresses.{address_line}

-- ---- a pick

abbrev pub format_name : Format → List ℕ
format_name SdJwt = codes "dc+sd-jwt"
format_name Mdoc = codes "mso_mdoc"

-- the id of the credential query, the place of the credential, its format, and its type as a JSON text
abbrev pub credential_line : List ℕ → ℕ → Credential → List ℕ
credential_line id place c =
    codes "  " ++ (id ++ (codes " " ++ (decimal place ++ (codes " " ++ (format_name c.format ++ (codes " "
    ++ (compact_text (string c.kind) ++ codes "\n")))))))

-- the credential, and what the claim set shows of it
abbrev pub credential_lines : CredentialQuery → Pick → Credential → List ℕ
credential_lines q p c =
    credential_line q.id p.credential c ++ flat_map address_line (shown q p.set c.tree)

abbrev pub read_in : Stands → Option Credential
read_in (Ok c) = Some c
read_in (Err rule) = None

-- the credential that a pick names, where one was read in that slot and the query has that claim set
abbrev pub picked : List Stands → CredentialQuery → Pick → Option Credential
picked slots q p =
    if nat_lt p.set (length q.sets) then option_and_then read_in (slice_get slots p.credential) else None

abbrev pub pick_lines : List Stands → CredentialQuery → Pick → List ℕ
pick_lines slots q p = option_map_or (credential_lines q p) (picked slots q p) []

-- ---- an answer

-- for each credential query the lines of its picks
abbrev pub picks_lines : List Stands → List CredentialQuery → List (List Pick) → List ℕ
picks_lines slots [] a = []
picks_lines slots (q ∷ qs) [] = []
picks_lines slots (q ∷ qs) (ps ∷ a) = flat_map (pick_lines slots q) ps ++ picks_lines slots qs a

abbrev pub answer_lines : List Stands → Query → List (List Pick) → List ℕ
answer_lines slots query a =
    codes "option " ++ (token_of query a ++ (codes "\n" ++ picks_lines slots query.credentials a))

-- ---- a page

-- whether nothing follows
abbrev pub end_line : Bool → List ℕ
end_line true = codes "end\n"
end_line false = codes "more\n"

abbrev pub page_text : List Stands → Query → List (List (List Pick)) → Bool → List ℕ
page_text slots query answers end = flat_map (answer_lines slots query) answers ++ end_line end

-- each answer has a list of picks for each credential query
abbrev pub HasLists : Query → List (List Pick) → Type 0
HasLists query a = length a ≡ length query.credentials
