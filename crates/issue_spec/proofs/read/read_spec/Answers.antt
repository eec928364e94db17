use Rattle.std.proofs.Common.{ap, ◌∙◌}
use Rattle.serde_json.specs.View.{view}
use Rattle.claim_tree.specs.Tree.{is_claim}
use Rattle.claim_tree.specs.Plain.{plain}
use Rattle.issue_spec.proofs.Values.{value_claim, as_read}
use Rattle.issue_spec.proofs.read.read_spec.Goals as goal

pub returns-clause-may_be_issued : goal.returns-clause-may_be_issued
returns-clause-may_be_issued c =
    as_read (view c.in_ok-value.value) c.read_value.result
    (ap (λ d. is_claim (plain d)) c.in_ok-value.ensures ∙ value_claim c.args.text.now)
    c.read_value.ensures.may_be_issued
