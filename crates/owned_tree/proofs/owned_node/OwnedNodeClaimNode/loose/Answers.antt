use Rattle.std.proofs.Common.{rules}
use Rattle.owned_tree.specs.declared.owned.OwnedTree.{the_lemmas}
use Rattle.owned_tree.proofs.owned_node.OwnedNodeClaimNode.loose.Goals as goal

pub returns-in-List : goal.returns-in-List
returns-in-List c = search (rules, the_lemmas)
