-- Reading an SD-JWT without key binding (RFC 9901, sections 4 and 7.1) as a credential (SD-JWT VC, sections
-- 3.1 and 3.2): what a text says, and the first rule that it breaks.
use Rattle.std.specs.Prelude.{ℕ, Bool, false, ◌||◌, ◌==◌, not, nat_lt, List, [], ◌∷◌, length, codes, Option}
use Rattle.std.specs.Prelude.{Some, None, option_map, option_and_then, unwrap_or, is_none}
use Rattle.std.specs.List.{slice_split}
use Rattle.std.specs.Option.{option_map_or}
use Rattle.std.specs.Str.{bytes_eq}
use Rattle.serde_json.specs.Data.{Data}
use Rattle.serde_json.specs.Find.{get, as_str}
use Rattle.base_forms.specs.Rules.{rule, first}
use Rattle.base_forms.specs.Hash.{hash_named}
use Rattle.base_forms.specs.declared.hash.HashName.{HashName}
use Rattle.base_forms.specs.declared.hash.HashName.TheVariants.{Sha256}
use Rattle.json_forms.specs.Look.{text_at}
use Rattle.jws_envelope.specs.Compact.{dot_parts}
use Rattle.jws_envelope.specs.Envelope.{Envelope, envelope_of, jws_rule, issuer_of}
use Rattle.jws_envelope.specs.Seal.{jws_seal}
use Rattle.claim_tree.specs.Tree.{RecordOf}
use Rattle.claim_tree.specs.Credential.{Credential}
use Rattle.claim_tree.specs.declared.facts.Format.TheVariants.{SdJwt}
use Rattle.base_forms.specs.Texts.{Utf8}
use Rattle.sdjwt_digests.specs.Disclosures.{Disclosed, all_disclosed}
use Rattle.claim_tree.specs.Parts.{Named, members_of}
use Rattle.sdjwt_disclosures.specs.DisclosedTree.{sd_alg, spelled_payload}
use Rattle.sdjwt_disclosures.specs.DisclosureRules.{processing_rule}
use Rattle.sdjwt_facts.specs.Facts.{facts_rule, kind_of, holder_of, first_of, past_of}

-- ---- the text: the issuer's JWS and each disclosure, each followed by `~`

-- the pieces between the tildes, the last of which is empty where the text ends in one
abbrev pub pieces : Utf8 → List Utf8
pieces text = slice_split (λ b. b == 126) text

-- the texts before the last, where the last is empty
abbrev pub before_empty : List Utf8 → Option (List Utf8)
before_empty [] = None
before_empty ([] ∷ []) = Some []
before_empty (t ∷ ts) = option_map (λ us. t ∷ us) (before_empty ts)

-- the JWS and the disclosures of a text whose pieces are these, where it ends in `~`
abbrev pub parts_of : List Utf8 → Option (Utf8 × List Utf8)
parts_of [] = None
parts_of (jws ∷ rest) = option_map (λ texts. (jws, texts)) (before_empty rest)

-- ---- the header and the payload

abbrev pub is_sd_type : Utf8 → Bool
is_sd_type typ = bytes_eq typ (codes "dc+sd-jwt") || bytes_eq typ (codes "vc+sd-jwt")

abbrev pub has_sd_type : Data → Bool
has_sd_type header = option_map_or is_sd_type (text_at (codes "typ") header) false

-- the hash that `_sd_alg` names, SHA-256 where there is none (RFC 9901, section 4.1.1)
abbrev pub named_hash : Data → Option HashName
named_hash payload =
    option_map_or (λ d. option_and_then hash_named (as_str d)) (get sd_alg payload) (Some Sha256)

abbrev pub hash_of : Data → HashName
hash_of payload = unwrap_or (named_hash payload) Sha256

-- ---- the rules

abbrev pub most_disclosures : ℕ
most_disclosures = 1_024

abbrev pub disclosures_of : Envelope → List Utf8 → List Disclosed
disclosures_of e texts = unwrap_or (all_disclosed (hash_of e.payload) texts) []

-- rules 3 to 6: the type in the header; the hash; the number of disclosures; their form
unfoldable pub forms_rule : Envelope → List Utf8 → Option ℕ
forms_rule e texts = first
    (rule 3 (not (has_sd_type e.header))
    ∷ rule 4 (is_none (named_hash e.payload))
    ∷ rule 5 (nat_lt most_disclosures (length texts))
    ∷ rule 6 (is_none (all_disclosed (hash_of e.payload) texts))
    ∷ [])

-- rules 7 to 17, on what the disclosures say and on the payload
abbrev pub later_rule : Data → List Disclosed → Option ℕ
later_rule payload ls = first (processing_rule payload ls ∷ facts_rule payload ∷ [])

-- rules 3 to 17, past those of the issuer's JWS
abbrev pub inner_rule : Envelope → List Utf8 → Option ℕ
inner_rule e texts = first (forms_rule e texts ∷ later_rule e.payload (disclosures_of e texts) ∷ [])

-- the number of a rule of SD-JWT, or that of a rule of its issuer's JWS
pub data Refusal : Type 0 where
  refused : ℕ → Refusal
  envelope : ℕ → Refusal

abbrev pub either_rule : Option ℕ → Option ℕ → Option Refusal
either_rule (Some n) inner = Some (envelope n)
either_rule None (Some n) = Some (refused n)
either_rule None None = None

abbrev pub refusal_of_parts : Option (Utf8 × List Utf8) → Option Refusal
refusal_of_parts None = Some (refused 1)
refusal_of_parts (Some (jws, texts)) =
    either_rule (jws_rule jws) (inner_rule (envelope_of (dot_parts jws)) texts)

-- the first rule that a text breaks: 1 it does not end in `~`, 2 its JWS is refused, then 3 to 17
unfoldable pub refusal_of : Utf8 → Option Refusal
refusal_of text = refusal_of_parts (parts_of (pieces text))

-- ---- the meaning

-- What an SD-JWT says: its issuer's message, the hash of its digests, and the credential.
pub record Content : Type 0 where
  pub jws : Envelope
  pub hash : HashName
  pub credential : Credential

-- What a JWS says under this hash and with these members of its tree. Each disclosure stands in the tree,
-- held.
abbrev pub content_with : Envelope → HashName → List Named → Content
content_with e hash members = record {
  jws = e;
  hash = hash;
  credential = record {
    format = SdJwt;
    kind = kind_of e.payload;
    issuer = issuer_of e;
    holder = holder_of e.payload;
    first = first_of e.payload;
    past = past_of e.payload;
    tree = RecordOf (members_of members);
    seal = jws_seal e;
  };
}

-- the members that its payload spells with these disclosures
abbrev pub members_with : Data → List Disclosed → List Named
members_with payload ls = unwrap_or (spelled_payload ls payload) []

-- what a JWS with the disclosures of these texts says
abbrev pub content_from : Envelope → List Utf8 → Content
content_from e texts = content_with e (hash_of e.payload) (members_with e.payload (disclosures_of e texts))

-- what a text says, where it breaks no rule
unfoldable pub content_in : Utf8 → Option Content
content_in text = option_map (λ p. content_from (envelope_of (dot_parts p.0)) p.1) (parts_of (pieces text))

-- the credential in what it says
unfoldable pub credential_in : Utf8 → Option Credential
credential_in text = option_map (λ c. c.credential) (content_in text)
