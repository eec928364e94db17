use Rattle.std.proofs.Common.{sym}
use Rattle.serde_json.specs.View.{view}
use Rattle.sdjwt_issue.specs.code.Asking.{asked_of}
use Rattle.sdjwt_spec.proofs.WellFormed.{read_may_be_issued}
use Rattle.sdjwt_spec.proofs.read.read_sdjwt_spec.Goals as goal

pub returns-in-None-clause-may_be_issued : goal.returns-in-None-clause-may_be_issued
returns-in-None-clause-may_be_issued c = λ h.
    read_may_be_issued (view c.args.spec.now) (asked_of c.in_ok-read.read) c.in_ok-read.ensures.meant
    c.in_ok-read.ensures.unbroken (sym c.in-None.ensures) h
