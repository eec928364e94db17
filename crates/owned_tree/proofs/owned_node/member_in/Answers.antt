use Rattle.std.proofs.Common.{◌≡◌, true, map, sym, ap, ◌∙◌, subst}
use Rattle.claim_tree.specs.Tree.{ascend, member_at}
use Rattle.owned_tree.specs.Owned.{named_of}
use Rattle.claim_tree.specs.Parts.{members_of}
use Rattle.claim_tree.specs.Ascending.{names_of}
use Rattle.owned_tree.proofs.OwnedParts.{part_named-Record, ascend-Record}
use Rattle.owned_tree.proofs.owned_node.member_in.Goals as goal

pub member_named-requires : goal.member_named-requires
member_named-requires c =
    subst (λ ms. ascend (names_of (map named_of ms)) ≡ true) (sym c.deref.ensures.value)
    (ascend-Record c.args.root.now c.in-Record.members c.in-Record.is c.requires)

pub returns-in-Record : goal.returns-in-Record
returns-in-Record c =
    c.member_named.ensures
    ∙ ap (λ ms. member_at c.args.name.now (members_of (map named_of ms))) c.deref.ensures.value
    ∙ sym (part_named-Record c.args.root.now c.in-Record.members c.args.name.now c.in-Record.is)
