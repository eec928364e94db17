-- The claim tree that an `OwnedNode` means: the part of an owned tree from this node on.
use Rattle.std.specs.Prelude.{◌≡◌, true}
use Rattle.claim_tree.specs.Tree.{Tree, is_claim}
use Rattle.owned_tree.specs.Owned.{tree_of}
use Rattle.owned_tree.specs.declared.owned_node.OwnedNode.{OwnedNode}

abbrev pub node_tree : OwnedNode → Tree
node_tree n = tree_of n.root.now

-- it is a claim tree: names ascend, and a list with a held element is loose
abbrev pub node_is_claim : (n : OwnedNode) → is_claim (node_tree n) ≡ true
node_is_claim n = n.claim
