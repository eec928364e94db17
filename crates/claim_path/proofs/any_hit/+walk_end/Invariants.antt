use Rattle.std.proofs.Common.{◌≡◌, length, take}
use Rattle.std.specs.Option.{option_copied}
use Rattle.claim_tree.specs.Tree.{parts}
use Rattle.claim_path.specs.Select.{Address, walk, spots_from}
use Rattle.claim_path.specs.code.WalkEnd.{end_of}
use Rattle.claim_path.proofs.any_hit.+walk_end.Given as goal

abbrev pub decreases-walk_end : goal.decreases-walk_end
decreases-walk_end g l = length l.steps.now

abbrev pub invariant-parts : goal.invariant-parts
invariant-parts g l = (a : Address) → l.so_far ≡ end_of (option_copied l.values)
    (walk l.rest (spots_from a 0 (take l.i (parts (g.V.ClaimNode.tree l.view)))))
