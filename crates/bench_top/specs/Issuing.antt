-- Issuing a test credential as a spec asks, which is one JSON text: an SD-JWT VC (RFC 9901; SD-JWT VC,
-- section 3) or a mobile document (ISO/IEC 18013-5, section 8.3.2.1.2.2).
use Rattle.std.specs.Prelude.{ℕ, Option, Some, None, option_map}
use Rattle.base_forms.specs.Texts.{Utf8}
use Rattle.base_forms.specs.Url64.{url64_of}
use Rattle.key_device.specs.Calls.{Held}
use Rattle.runs.specs.Tree.{Tree, gives, stops, bind, map_stops, unless}
use Rattle.issue_spec.specs.Spec.{Asked, sdjwt as asks_sdjwt, mdoc as asks_mdoc, spec_rule, asked_in}
use Rattle.sdjwt_issue.specs.Issuing as sdjwt
use Rattle.sdjwt_issue.specs.Spec.{Spec as SdJwtSpec}
use Rattle.mdoc_issue.specs.Issuing as mdoc
use Rattle.mdoc_issue.specs.Spec.{Spec as MdocSpec}

-- why nothing is issued: the spec breaks this rule, or the device does not hold the issuer's key
pub data Refusal : Type 0 where
  broken : ℕ → Refusal
  key_missing : Refusal

-- ---- by what is asked

-- Two disclosures with one digest break rule 6.
abbrev pub sdjwt_refusal : sdjwt.Refusal → Refusal
sdjwt_refusal sdjwt.shared_digest = broken 6
sdjwt_refusal sdjwt.key_missing = key_missing

abbrev pub sdjwt_tree : Held → SdJwtSpec → Tree Refusal Utf8
sdjwt_tree held s = map_stops sdjwt_refusal (sdjwt.issue_tree held s)

abbrev pub mdoc_refusal : mdoc.Refusal → Refusal
mdoc_refusal mdoc.key_missing = key_missing

-- The file of a document has the base64url of its bytes.
abbrev pub mdoc_tree : Held → MdocSpec → Tree Refusal Utf8
mdoc_tree held s =
    bind (map_stops mdoc_refusal (mdoc.issue_tree held s)) (λ bytes. gives (url64_of bytes))

-- what nobody asks breaks rule 1
abbrev pub asked_tree : Held → Option Asked → Tree Refusal Utf8
asked_tree held None = stops (broken 1)
asked_tree held (Some (asks_sdjwt s)) = sdjwt_tree held s
asked_tree held (Some (asks_mdoc s)) = mdoc_tree held s

-- ---- by the spec

-- the text of the credential file that a spec asks for, from a device that holds these names
abbrev pub issue_tree : Held → Utf8 → Tree Refusal Utf8
issue_tree held text =
    unless (option_map broken (spec_rule text)) (asked_tree held (asked_in text))
