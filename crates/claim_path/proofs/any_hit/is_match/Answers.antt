use Rattle.std.proofs.Common.{rules, tests, ◌∙◌, ap}
use Rattle.std.proofs.lemmas.Iterator.{YieldsList-from_slice}
use Rattle.std.proofs.lemmas.Iterator.Search.{any_from_yields_List}
use Rattle.std.specs.List.{list_any}
use Rattle.claim_path.specs.Hits.{equals}
use Rattle.claim_path.proofs.any_hit.is_match.Goals as goal

pub returns-in-Some : goal.returns-in-Some
returns-in-Some g c = rw c.in-Some.is (
    any_from_yields_List (λ v. equals v (g.V.ClaimNode.tree c.args.view)) _ _ c.any.result c.any.ensures.ran
    (YieldsList-from_slice c.deref.result.now cc) (λ x b q k. search (rules, tests))
    ∙ search rules)
