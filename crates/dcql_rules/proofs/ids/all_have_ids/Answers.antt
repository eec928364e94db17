use Rattle.std.proofs.Common.{rules, tests, sym, ◌∙◌, codes, is_some}
use Rattle.std.proofs.lemmas.Iterator.{YieldsList-from_slice}
use Rattle.std.proofs.lemmas.Iterator.Search.{all_from_yields_List}
use Rattle.std.proofs.lemmas.List.Folds.{list_all-map}
use Rattle.serde_json.specs.View.{view}
use Rattle.serde_json.specs.Find.{get}
use Rattle.dcql_rules.proofs.ids.all_have_ids.Goals as goal

pub returns : goal.returns
returns c =
    all_from_yields_List (λ v. is_some (get (codes "id") (view v))) _ _ c.all.result c.all.ensures.ran
    (YieldsList-from_slice c.args.values.now cc) (λ x b q k. search (rules, tests))
    ∙ sym (list_all-map (λ v. is_some (get (codes "id") v)) view c.args.values.now)
