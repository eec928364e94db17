use Rattle.std.proofs.Common.{arith}
use Rattle.owned_tree.specs.Owned.{tree_of}
use Rattle.claim_tree.specs.Tree.{marks}
use Rattle.owned_tree.proofs.OwnedParts.{marks-List, marks-Record, within_list, at_list}
use Rattle.owned_tree.proofs.owned_node.mark_at.Goals as goal

pub index-requires : goal.index-requires
index-requires c =
    omega (
      arith,
      within_list (marks (tree_of c.args.root.now))
          (λ x. x.held) c.in-List.elements.items c.args.i
          (marks-List c.args.root.now c.in-List.field-0 c.in-List.elements c.in-List.is) c.requires,
    )

pub returns-in-List : goal.returns-in-List
returns-in-List c =
    let e = marks-List c.args.root.now c.in-List.field-0 c.in-List.elements c.in-List.is in
    at_list (marks (tree_of c.args.root.now))
    (λ x. x.held) c.in-List.elements.items c.args.i c.index.result.now e
    (within_list (marks (tree_of c.args.root.now))
    (λ x. x.held) c.in-List.elements.items c.args.i e c.requires) c.index.ensures

pub index-requires-in-Record : goal.index-requires-in-Record
index-requires-in-Record c =
    omega (
      arith,
      within_list (marks (tree_of c.args.root.now))
          (λ x. x.held) c.in-Record.members.items c.args.i
          (marks-Record c.args.root.now c.in-Record.members c.in-Record.is) c.requires,
    )

pub returns-in-Record : goal.returns-in-Record
returns-in-Record c =
    let e = marks-Record c.args.root.now c.in-Record.members c.in-Record.is in
    at_list (marks (tree_of c.args.root.now))
    (λ x. x.held) c.in-Record.members.items c.args.i c.index-in-Record.result.now e
    (within_list (marks (tree_of c.args.root.now))
    (λ x. x.held) c.in-Record.members.items c.args.i e c.requires) c.index-in-Record.ensures
