-- The claim tree that a node of a document means: the part of the document's tree from this node on (ISO/IEC
-- 18013-5, section 8.3.2.1.2.2).
use Rattle.std.specs.Prelude.{◌≡◌, true}
use Rattle.claim_tree.specs.Tree.{Tree, is_claim}
use Rattle.owned_tree.specs.OwnedNode as owned
use Rattle.mdoc_view.specs.declared.node.MdNode.{MdNode}

abbrev pub node_tree : MdNode → Tree
node_tree n = owned.node_tree n.node

-- It is a claim tree: names ascend, and a list with a held element is loose.
abbrev pub node_is_claim : (n : MdNode) → is_claim (node_tree n) ≡ true
node_is_claim n = owned.node_is_claim n.node
