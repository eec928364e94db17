use Rattle.mdoc_issue.proofs.Endings.{ends_as_asked}
use Rattle.mdoc_issue.proofs.laws.ends_as_asked.Goals as goal

pub returns : goal.returns
returns c = ends_as_asked c.read_is_relation.ensures.computed
