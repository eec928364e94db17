use Rattle.std.proofs.Common.{ap, ◌∙◌}
use Rattle.claim_tree.specs.Tree.{is_claim}
use Rattle.owned_tree.proofs.OwnedParts.{tree_of-Record}
use Rattle.sdjwt_view.proofs.reader.read_facts.Goals as goal

pub invariant_of-result : goal.invariant_of-result
invariant_of-result c = record { claim = ap is_claim (tree_of-Record c.args.members) ∙ c.requires }
