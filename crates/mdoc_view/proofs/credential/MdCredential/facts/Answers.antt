use Rattle.std.proofs.Common.{rules}
use Rattle.mdoc_view.proofs.credential.MdCredential.facts.Goals as goal

pub returns-clause-past : goal.returns-clause-past
returns-clause-past c = search rules
