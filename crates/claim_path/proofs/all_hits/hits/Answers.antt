use Rattle.std.proofs.Common.{sym, subst}
use Rattle.std.specs.List.Sorted.{IsStrictlySortedBy}
use Rattle.std.specs.Option.{option_copied}
use Rattle.claim_tree.specs.Order.{address_cmp}
use Rattle.claim_path.proofs.Ascending.{hits-ascend}
use Rattle.claim_path.proofs.all_hits.hits.Goals as goal

pub returns-clause-ascending : goal.returns-clause-ascending
returns-clause-ascending g c = subst (IsStrictlySortedBy address_cmp) (sym c.in_ok-found.ensures)
    (hits-ascend c.args.path.now (option_copied c.args.values) (g.V.ClaimNode.tree c.args.view))
