use Rattle.std.proofs.Common.{rules}
use Rattle.cbor_validity.proofs.fine.if_different.Goals as goal

pub returns-then-are_different : goal.returns-then-are_different
returns-then-are_different c = search rules
