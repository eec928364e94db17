use Rattle.std.proofs.Common.{rules}
use Rattle.jws_envelope.proofs.jws.Jws.issuer_name.Goals as goal

pub returns : goal.returns
returns c = search rules
