use Rattle.std.proofs.Common.{rules}
use Rattle.cbor_validity.specs.Head.{open_head_of}
use Rattle.cbor_validity.proofs.head.open_head_of.Goals as goal

pub returns-in-2 : goal.returns-in-2
unfolding open_head_of
returns-in-2 c = search rules
