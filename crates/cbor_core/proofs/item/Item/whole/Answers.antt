use Rattle.std.proofs.Common.{rules}
use Rattle.cbor_core.specs.Views.{whole_of}
use Rattle.cbor_core.proofs.item.Item.whole.Goals as goal

pub returns-in-Negative-clause-said : goal.returns-in-Negative-clause-said
unfolding whole_of
returns-in-Negative-clause-said c = search rules
