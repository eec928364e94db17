use Rattle.std.proofs.Common.{sym}
use Rattle.claim_tree.proofs.Trees.{is_claim-part_named}
use Rattle.owned_tree.specs.Owned.{tree_of}
use Rattle.owned_tree.proofs.owned_node.OwnedNodeClaimNode.member.Goals as goal

pub invariant_of-result : goal.invariant_of-result
invariant_of-result c =
    record {
      claim = is_claim-part_named (tree_of c.args.self.root.now) c.args.name.now
          (tree_of c.in-Some.root.now) c.args.self.claim (sym c.in-Some.ensures);
    }
