use Rattle.sdjwt_issue.proofs.Asked.{issued_is_asked}
use Rattle.sdjwt_issue.proofs.laws.issued_is_asked.Goals as goal

pub returns : goal.returns
returns c = issued_is_asked
