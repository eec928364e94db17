use Rattle.mdoc_issue.proofs.Law.{issued_is_asked}
use Rattle.mdoc_issue.proofs.laws.issued_is_asked.Goals as goal

pub returns : goal.returns
returns c = issued_is_asked c.read_is_relation.ensures.computed
