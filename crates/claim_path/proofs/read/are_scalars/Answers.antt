use Rattle.std.proofs.Common.{rules, tests, is_some, ◌∙◌, sym}
use Rattle.std.proofs.lemmas.Iterator.{YieldsList-from_slice}
use Rattle.std.proofs.lemmas.Iterator.Search.{all_from_yields_List}
use Rattle.std.proofs.lemmas.List.Folds.{list_all-map}
use Rattle.serde_json.specs.View.{view}
use Rattle.claim_path.specs.Read.{scalar_of}
use Rattle.claim_path.proofs.read.are_scalars.Goals as goal

pub returns : goal.returns
returns c =
    all_from_yields_List (λ s. is_some (scalar_of (view s))) _ _ c.all.result c.all.ensures.ran
    (YieldsList-from_slice c.args.values.now cc) (λ x b q k. search (rules, tests))
    ∙ sym (list_all-map (λ s. is_some (scalar_of s)) view c.args.values.now)
