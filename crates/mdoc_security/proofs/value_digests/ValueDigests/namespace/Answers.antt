use Rattle.std.proofs.Common.{rules}
use Rattle.mdoc_security.proofs.value_digests.ValueDigests.namespace.Goals as goal

pub returns-in-Some : goal.returns-in-Some
returns-in-Some c = search rules
