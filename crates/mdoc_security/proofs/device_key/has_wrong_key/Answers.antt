use Rattle.std.proofs.Common.{rules}
use Rattle.mdoc_security.proofs.device_key.has_wrong_key.Goals as goal

pub returns-in-None : goal.returns-in-None
returns-in-None c = search rules
