use Rattle.std.proofs.Common.{rules}
use Rattle.mdoc_security.proofs.mobile_security_object.MobileSecurityObject.last.Goals as goal

pub returns : goal.returns
returns c = search rules
