-- What a spec in memory asks.
use Rattle.sdjwt_issue.specs.code.Asking.{asked_of as asked_of_sdjwt}
use Rattle.mdoc_issue.specs.code.Asking.{asked_of as asked_of_mdoc}
use Rattle.issue_spec.specs.Spec.{Asked, sdjwt, mdoc}
use Rattle.issue_spec.specs.declared.spec.IssueSpec.{IssueSpec}
use Rattle.issue_spec.specs.declared.spec.IssueSpec.TheVariants.{SdJwt, Mdoc}

abbrev pub asked_of : IssueSpec → Asked
asked_of (SdJwt s) = sdjwt (asked_of_sdjwt s)
asked_of (Mdoc s) = mdoc (asked_of_mdoc s)
