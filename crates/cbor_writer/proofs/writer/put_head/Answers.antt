use Rattle.std.proofs.Common.{rules}
use Rattle.cbor_writer.specs.Writing.{head_bytes}
use Rattle.cbor_writer.proofs.writer.put_head.Goals as goal

pub returns-then-n-lt256-clause-ok : goal.returns-then-n-lt256-clause-ok
unfolding head_bytes
returns-then-n-lt256-clause-ok c = search rules
