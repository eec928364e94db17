use Rattle.claim_tree.proofs.Trees.{is_claim-parts}
use Rattle.owned_tree.specs.Owned.{tree_of}
use Rattle.owned_tree.proofs.owned_node.OwnedNodeClaimNode.at.Goals as goal

pub invariant_of-result : goal.invariant_of-result
invariant_of-result c =
    record {
      claim = is_claim-parts (tree_of c.args.self.root.now) c.args.i
          (tree_of c.part_at.result.now) c.args.self.claim c.part_at.ensures;
    }
