use Rattle.std.proofs.Common.{rules, ◌≡◌, List, true, false, ap, ◌∙◌}
use Rattle.claim_tree.specs.Tree.{Other, RecordOf}
use Rattle.claim_tree.specs.Parts.{Named, members_of}
use Rattle.owned_tree.specs.Owned.{tree_of}
use Rattle.owned_tree.specs.declared.owned.OwnedTree.{Other as OwnedOther, the_lemmas}
use Rattle.owned_tree.proofs.OwnedParts.{tree_of-Record}
use Rattle.mdoc_items.specs.Value.{rise}
use Rattle.mdoc_items.specs.code.Valued.{valued}
use Rattle.mdoc_items.proofs.InOrder.{record_in_order, no_record}
use Rattle.mdoc_items.proofs.value.record.Goals as goal

pub returns-in_ok-owned : goal.returns-in_ok-owned
returns-in_ok-owned c =
    let up : rise (valued c.sorted-members.result.items) ≡ true = search rules in
    tree_of-Record c.in_ok-owned.field-0
    ∙ ap (λ (ms : List Named). RecordOf (members_of ms)) c.in_ok-owned.ensures
    ∙ record_in_order c.args.held (valued c.args.members.items)
    (valued c.sorted-members.result.items) c.sorted-members.ensures up

pub returns-else-rise : goal.returns-else-rise
returns-else-rise c =
    let down : rise (valued c.sorted-members.result.items) ≡ false = search rules in
    let is : tree_of OwnedOther ≡ Other = search (rules, the_lemmas) in
    is ∙ no_record c.args.held (valued c.args.members.items)
    (valued c.sorted-members.result.items) c.sorted-members.ensures down
