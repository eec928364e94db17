-- The claim tree that a node of a credential means: the part of the credential's tree from this node on.
use Rattle.std.specs.Prelude.{◌≡◌, true}
use Rattle.claim_tree.specs.Tree.{Tree, is_claim}
use Rattle.owned_tree.specs.OwnedNode as owned
use Rattle.sdjwt_view.specs.declared.node.SdNode.{SdNode}

abbrev pub node_tree : SdNode → Tree
node_tree n = owned.node_tree n.node

-- it is a claim tree: names ascend, and a list with a held element is loose
abbrev pub node_is_claim : (n : SdNode) → is_claim (node_tree n) ≡ true
node_is_claim n = owned.node_is_claim n.node
