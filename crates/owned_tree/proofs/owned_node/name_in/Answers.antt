use Rattle.std.proofs.Common.{arith, Some, sym, ap, ◌∙◌}
use Rattle.owned_tree.specs.Owned.{tree_of}
use Rattle.claim_tree.specs.Tree.{names}
use Rattle.owned_tree.proofs.OwnedParts.{member_name, names-Record, within_list, at_list}
use Rattle.owned_tree.proofs.owned_node.name_in.Goals as goal

pub index-requires : goal.index-requires
index-requires c =
    omega (
      arith,
      within_list (names (tree_of c.args.root.now)) member_name c.in-Record.members.items c.args.i
          (names-Record c.args.root.now c.in-Record.members c.in-Record.is) c.requires,
    )

pub returns : goal.returns
returns c =
    let e = names-Record c.args.root.now c.in-Record.members c.in-Record.is in
    at_list (names (tree_of c.args.root.now)) member_name c.in-Record.members.items c.args.i
    c.index.result.now e
    (within_list (names (tree_of c.args.root.now)) member_name c.in-Record.members.items c.args.i e
    c.requires) c.index.ensures
    ∙ ap Some (sym c.as_str.ensures.value)
