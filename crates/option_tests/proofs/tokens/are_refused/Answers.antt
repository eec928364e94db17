use Rattle.std.proofs.Common.{refl}
use Rattle.std.specs.List.Sorted.{IsStrictlySortedBy}
use Rattle.option_tests.proofs.tokens.are_refused.Goals as goal

pub from_triples-requires : goal.from_triples-requires
unfolding IsStrictlySortedBy
from_triples-requires c = ((refl, (refl, tt)), ((refl, tt), (tt, tt)))
