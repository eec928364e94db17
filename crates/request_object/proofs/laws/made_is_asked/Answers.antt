use Rattle.request_object.proofs.ReadAsAsked.{made_is_asked, made_is_signed}
use Rattle.request_object.proofs.laws.made_is_asked.Goals as goal

pub returns-clause-asked : goal.returns-clause-asked
returns-clause-asked c = made_is_asked

pub returns-clause-signed : goal.returns-clause-signed
returns-clause-signed c = made_is_signed
