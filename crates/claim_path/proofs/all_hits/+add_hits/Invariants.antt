use Rattle.std.proofs.Common.{◌≡◌, ◌+◌, ◌*◌, length, take, true}
use Rattle.std.specs.Option.{option_copied}
use Rattle.claim_tree.specs.Tree.{parts}
use Rattle.claim_path.specs.Select.{walk, spots_from}
use Rattle.claim_path.specs.code.AddedHits.{AddsHits}
use Rattle.claim_path.proofs.all_hits.+add_hits.Given as goal

abbrev pub decreases-add_hits : goal.decreases-add_hits
decreases-add_hits g l = 2 * length l.steps.now

abbrev pub decreases-add_hits_of_parts : goal.decreases-add_hits_of_parts
decreases-add_hits_of_parts g l = 2 * length l.steps.now + 1

abbrev pub invariant-add_hits_of_parts-loop-i : goal.invariant-add_hits_of_parts-loop-i
invariant-add_hits_of_parts-loop-i g l = (l.here ≡ l.fn.here)
    × AddsHits (option_copied l.values) (walk l.steps
    (spots_from l.fn.here 0 (take l.i (parts (g.V.ClaimNode.tree l.view))))) true l.fn.found.items
    l.found.items
