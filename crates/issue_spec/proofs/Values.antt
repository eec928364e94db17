-- The value of a text is as JSON is read.
use Rattle.std.proofs.Common.{◌≡◌, true, Option, Some, None, refl}
use Rattle.std.specs.Prelude.{unwrap_or, Result, Ok, Err, IfOk}
use Rattle.serde_json.specs.Data.{Data, null}
use Rattle.base_forms.specs.Texts.{Utf8}
use Rattle.json_forms.specs.Text.{json_of}
use Rattle.claim_tree.specs.Tree.{is_claim}
use Rattle.claim_tree.specs.Plain.{plain}
use Rattle.sdjwt_digests.proofs.ValueClaims.{json_claim}
use Rattle.spec_forms.specs.declared.error.Error.{Error}
use Rattle.issue_spec.specs.Spec.{value_in, MayBeIssued}
use Rattle.issue_spec.specs.code.Asking.{asked_of}
use Rattle.issue_spec.specs.declared.spec.IssueSpec.{IssueSpec}

value_at : (o : Option Data) → ((d : Data) → o ≡ Some d → is_claim (plain d) ≡ true)
    → is_claim (plain (unwrap_or o null)) ≡ true
value_at None h = refl
value_at (Some d) h = h d refl

pub value_claim : (text : Utf8) → is_claim (plain (value_in text)) ≡ true
value_claim text = value_at (json_of text) (λ d e. json_claim text d e)

-- what is known of a value as JSON is read
pub as_read : (d : Data) (r : Result IssueSpec Error) → is_claim (plain d) ≡ true
    → IfOk r (λ s. is_claim (plain d) ≡ true → MayBeIssued (asked_of s))
    → IfOk r (λ s. MayBeIssued (asked_of s))
as_read d (Ok s) h known = known h
as_read d (Err e) h known = tt
