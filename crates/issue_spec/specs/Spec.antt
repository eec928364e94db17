-- What the spec of a test credential asks, and the least rule that it breaks. It is the text of one JSON
-- object (RFC 8259), whose member `format` says in which format the credential is written (OpenID4VP 1.0,
-- annexes B.2 and B.3).
use Rattle.std.specs.Prelude.{ℕ, codes, Option, Some, None, option_and_then, unwrap_or, if◌then◌else◌}
use Rattle.std.specs.Str.{bytes_eq}
use Rattle.serde_json.specs.Data.{Data, null}
use Rattle.base_forms.specs.Texts.{Utf8}
use Rattle.json_forms.specs.Look.{text_at}
use Rattle.json_forms.specs.Text.{json_of}
use Rattle.claim_tree.specs.declared.facts.Format.{Format}
use Rattle.claim_tree.specs.declared.facts.Format.TheVariants.{SdJwt, Mdoc}
use Rattle.sdjwt_issue.specs.Spec.{Spec as SdJwtSpec, IsSdJwtSpec}
use Rattle.mdoc_issue.specs.Spec.{Spec as MdocSpec, IsMdocSpec}
use Rattle.sdjwt_spec.specs.Meaning.{spec_of as sdjwt_spec_of}
use Rattle.sdjwt_spec.specs.Rules.{spec_rule as sdjwt_rule}
use Rattle.mdoc_spec.specs.Meaning.{spec_of as mdoc_spec_of}
use Rattle.mdoc_spec.specs.Rules.{spec_rule as mdoc_rule}

pub data Asked : Type 0 where
  sdjwt : SdJwtSpec → Asked
  mdoc : MdocSpec → Asked

-- the value of the text, and null where it is no JSON text
abbrev pub value_in : Utf8 → Data
value_in text = unwrap_or (json_of text) null

abbrev pub format_named : Utf8 → Option Format
format_named name =
    if bytes_eq name (codes "dc+sd-jwt") then Some SdJwt
    else if bytes_eq name (codes "mso_mdoc") then Some Mdoc
    else None

abbrev pub format_in : Data → Option Format
format_in d = option_and_then format_named (text_at (codes "format") d)

-- a spec of no format breaks rule 1
abbrev pub rule_by : Option Format → Data → Option ℕ
rule_by None d = Some 1
rule_by (Some SdJwt) d = sdjwt_rule d
rule_by (Some Mdoc) d = mdoc_rule d

abbrev pub asked_by : Option Format → Data → Option Asked
asked_by None d = None
asked_by (Some SdJwt) d = Some (sdjwt (sdjwt_spec_of d))
asked_by (Some Mdoc) d = Some (mdoc (mdoc_spec_of d))

-- the least rule that is broken
abbrev pub spec_rule : Utf8 → Option ℕ
spec_rule text = rule_by (format_in (value_in text)) (value_in text)

-- what is asked, where no rule is broken
abbrev pub asked_in : Utf8 → Option Asked
asked_in text = asked_by (format_in (value_in text)) (value_in text)

-- The issuer can write it, and what is written reads as what was asked.
abbrev pub MayBeIssued : Asked → Type 0
MayBeIssued (sdjwt s) = IsSdJwtSpec s
MayBeIssued (mdoc s) = IsMdocSpec s
