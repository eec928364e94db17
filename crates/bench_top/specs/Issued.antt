-- What a credential file is that was issued by a spec: it reads as the credential that the spec asks for,
-- whose seal a device judges yes (RFC 9901, section 7.1; ISO/IEC 18013-5, section 9.1.2.4).
use Rattle.std.specs.Prelude.{◌≡◌, ℕ, List, Option, Some, None}
use Rattle.base_forms.specs.Texts.{Utf8}
use Rattle.base_forms.specs.Url64.{url64_of}
use Rattle.key_device.specs.Calls.{Held, Judges}
use Rattle.issue_spec.specs.Spec.{Asked, sdjwt as asks_sdjwt, mdoc as asks_mdoc, asked_in}
use Rattle.sdjwt_issue.specs.Endings as sdjwt
use Rattle.mdoc_issue.specs.Endings as mdoc
use Rattle.mdoc_issue.specs.Spec.{Spec as MdocSpec}

-- the file has the base64url of a document that was issued
pub record IsDocument (s : MdocSpec) (held : Held) (judged : Judges) (text : Utf8) : Type 0 where
  pub bytes : List ℕ
  pub is_text : text ≡ url64_of bytes
  pub issued : mdoc.IsIssued s held judged bytes

abbrev pub IsIssuedAs : Option Asked → Held → Judges → Utf8 → Type 0
IsIssuedAs None held judged text = ⊥
IsIssuedAs (Some (asks_sdjwt s)) held judged text = sdjwt.IsIssued s held judged text
IsIssuedAs (Some (asks_mdoc s)) held judged text = IsDocument s held judged text

-- the file that was issued by this spec, where the device held these names before and judges so afterwards
abbrev pub IsIssued : Utf8 → Held → Judges → Utf8 → Type 0
IsIssued spec held judged text = IsIssuedAs (asked_in spec) held judged text
