use Rattle.request_object.proofs.Endings.{ends_as_asked}
use Rattle.request_object.proofs.laws.ends_as_asked.Goals as goal

pub returns : goal.returns
returns c = ends_as_asked
