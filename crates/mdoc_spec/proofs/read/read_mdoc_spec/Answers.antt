use Rattle.std.proofs.Common.{sym, ◌∙◌}
use Rattle.serde_json.specs.View.{view}
use Rattle.mdoc_issue.specs.code.Asking.{asked_of}
use Rattle.mdoc_spec.proofs.Stored.{text_stored}
use Rattle.mdoc_spec.proofs.WellFormed.{read_may_be_issued}
use Rattle.mdoc_spec.proofs.read.read_mdoc_spec.Goals as goal

pub returns-in-None-clause-may_be_issued : goal.returns-in-None-clause-may_be_issued
returns-in-None-clause-may_be_issued c = λ h.
    read_may_be_issued (view c.args.spec.now) (asked_of c.in_ok-read.read) c.in_ok-read.ensures.meant
    c.in_ok-read.ensures.unbroken (sym c.in_ok-rule.ensures.rule ∙ c.in-None.is)
    (text_stored c.in_ok-read.read.kind) (c.in_ok-rule.ensures.stored c.in-None.is) h
