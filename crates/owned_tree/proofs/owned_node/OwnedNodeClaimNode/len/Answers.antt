use Rattle.std.proofs.Common.{ap, length, arith}
use Rattle.std.proofs.Math.ListN.{length-map}
use Rattle.owned_tree.proofs.OwnedParts.{element_tree, member_tree, parts-List, parts-Record}
use Rattle.owned_tree.proofs.owned_node.OwnedNodeClaimNode.len.Goals as goal

pub returns-in-List : goal.returns-in-List
returns-in-List c =
    let e = parts-List c.args.self.root.now c.in-List.field-0 c.in-List.elements c.in-List.is in
    omega (arith, ap length e, length-map c.in-List.elements.items element_tree)

pub returns-in-Record : goal.returns-in-Record
returns-in-Record c =
    let e = parts-Record c.args.self.root.now c.in-Record.members c.in-Record.is in
    omega (arith, ap length e, length-map c.in-Record.members.items member_tree)
