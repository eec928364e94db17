-- An SD-JWT as its issuer writes it (RFC 9901, section 4), and what it says.
use Rattle.std.specs.Prelude.{◌≡◌, ◌≤◌, ℕ, List, [], ◌∷◌, ◌++◌, length, codes, Some, None}
use Rattle.serde_json.specs.Data.{Data, object, Members as Fields}
use Rattle.base_forms.specs.Texts.{Utf8}
use Rattle.base_forms.specs.declared.hash.HashName.TheVariants.{Sha256}
use Rattle.jws_envelope.specs.Draft.{header_of, input_of, message_of, meant}
use Rattle.claim_tree.specs.declared.algorithm.SignAlg.{SignAlg}
use Rattle.sdjwt_view.specs.Facts.{facts_rule}
use Rattle.sdjwt_view.specs.Reading.{Content, content_with, most_disclosures}
use Rattle.sdjwt_hiding.specs.Hiding.{Marks, hidden, met, StaysPlain}
use Rattle.sdjwt_hiding.specs.Meant.{meant_members}
use Rattle.sdjwt_hiding.specs.Laws.{MayHide}
use Rattle.sdjwt_hiding.specs.Disclosing.{by_sha256, disclosure_texts}

-- ---- the text

-- each text followed by `~`
abbrev pub joined : List Utf8 → Utf8
joined [] = []
joined (t ∷ ts) = t ++ 126 ∷ joined ts

-- the object with parts hidden; SHA-256 is the hash that is meant where none is named
abbrev pub payload_of : Marks → Fields → Data
payload_of m ms = hidden by_sha256 m (object ms)

abbrev pub header_by : SignAlg → Utf8 → Data
header_by alg key = header_of alg (codes "dc+sd-jwt") (Some key)

-- what is signed
abbrev pub input_by : SignAlg → Utf8 → Marks → Fields → Utf8
input_by alg key m ms = input_of (header_by alg key) (payload_of m ms)

-- the signed message and the disclosures
abbrev pub issued_text : SignAlg → Utf8 → Marks → Fields → List ℕ → Utf8
issued_text alg key m ms signature =
    joined (message_of (input_by alg key m ms) signature ∷ disclosure_texts m (object ms))

-- ---- what it says

-- the payload's facts, and the tree that is meant
abbrev pub content_by : SignAlg → Utf8 → Marks → Fields → List ℕ → Content
content_by alg key m ms signature = content_with
    (meant (header_by alg key) (payload_of m ms) (input_by alg key m ms) signature) Sha256
    (meant_members m ms)

-- ---- what may be issued

-- An object of which parts may be hidden, with few enough disclosures, and with facts that break no rule and
-- are not hidden.
pub record MayIssue (m : Marks) (ms : Fields) : Type 0 where
  pub may_hide : MayHide by_sha256 m ms
  pub few : length (met by_sha256 m (object ms)) ≤ most_disclosures
  pub facts : facts_rule (object ms) ≡ None
  pub plain_kind : StaysPlain m (codes "vct")
  pub plain_first : StaysPlain m (codes "nbf")
  pub plain_past : StaysPlain m (codes "exp")
  pub plain_holder : StaysPlain m (codes "cnf")
