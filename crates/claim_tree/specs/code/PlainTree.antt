-- The claim trees that a `PlainTree` and a `PlainNode` mean.
use Rattle.claim_tree.specs.Tree.{Tree}
use Rattle.claim_tree.specs.Plain.{claim_of}
use Rattle.claim_tree.specs.declared.tree.PlainTree.{PlainTree}
use Rattle.claim_tree.specs.declared.plain.PlainNode.{PlainNode}

abbrev pub tree_of : PlainTree → Tree
tree_of t = claim_of t.value

-- the part of the tree from this node on
abbrev pub tree_from : PlainNode → Tree
tree_from n = claim_of n.value.now
