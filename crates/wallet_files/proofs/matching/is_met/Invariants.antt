use Rattle.std.proofs.Common.{◌≡◌, ◌-◌, length}
use Rattle.std.specs.List.{range_with_len}
use Rattle.wallet_files.specs.Met.{is_some_met, is_met}
use Rattle.wallet_files.proofs.matching.is_met.Given as goal

abbrev pub invariant-loop-set : goal.invariant-loop-set
invariant-loop-set g l = is_some_met l.query (g.V.ClaimNode.tree l.view)
    (range_with_len l.set (length l.query.sets - l.set)) ≡ is_met l.query (g.V.ClaimNode.tree l.view)
