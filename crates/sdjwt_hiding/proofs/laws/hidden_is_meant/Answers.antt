use Rattle.sdjwt_hiding.proofs.Payload.{hidden_is_meant}
use Rattle.sdjwt_hiding.proofs.laws.hidden_is_meant.Goals as goal

pub returns : goal.returns
returns c = hidden_is_meant
