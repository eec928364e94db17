use Rattle.std.proofs.Common.{rules}
use Rattle.cbor_validity.specs.Keys.{key_of}
use Rattle.cbor_validity.proofs.key.key_of.Goals as goal

pub returns-in-Unsigned : goal.returns-in-Unsigned
unfolding key_of
returns-in-Unsigned c = search rules
