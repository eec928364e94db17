-- The claim tree that an `OwnedTree` means.
use Rattle.std.specs.Prelude.{string_bytes}
use Rattle.claim_tree.specs.Tree.{Tree, Text, Whole, Truth, Null, Bytes, Other, ListOf, RecordOf}
use Rattle.claim_tree.specs.Parts.{Part, Named, elements_of, members_of}
use Rattle.owned_tree.specs.declared.owned.OwnedTree.{OwnedTree, fold-OwnedTree}
use Rattle.owned_tree.specs.declared.owned.OwnedElement.{OwnedElement}
use Rattle.owned_tree.specs.declared.owned.OwnedMember.{OwnedMember}
use Rattle.owned_tree.specs.declared.owned.OwnedTree.TheOpen.{OwnedTree-F, OwnedElement-F, OwnedMember-F}

abbrev pub tree_step : OwnedTree-F Tree Part Named → Tree
tree_step (OwnedTree-F.Text s) = Text (string_bytes s)
tree_step (OwnedTree-F.Whole z) = Whole z
tree_step (OwnedTree-F.Truth b) = Truth b
tree_step OwnedTree-F.Null = Null
tree_step (OwnedTree-F.Bytes v) = Bytes v.items
tree_step OwnedTree-F.Other = Other
tree_step (OwnedTree-F.List loose v) = ListOf loose (elements_of v.items)
tree_step (OwnedTree-F.Record v) = RecordOf (members_of v.items)

abbrev pub element_step : OwnedElement-F Tree Part Named → Part
element_step e = (e.held, e.tree)

abbrev pub member_step : OwnedMember-F Tree Part Named → Named
member_step m = (string_bytes m.name, m.held, m.tree)

abbrev pub tree_of : OwnedTree → Tree
tree_of = fold-OwnedTree Tree Part Named tree_step element_step member_step

abbrev pub part_of : OwnedElement → Part
part_of e = (e.held, tree_of e.tree)

abbrev pub named_of : OwnedMember → Named
named_of m = (string_bytes m.name, m.held, tree_of m.tree)
