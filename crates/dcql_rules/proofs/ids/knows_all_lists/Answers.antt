use Rattle.std.proofs.Common.{rules, tests, sym, ◌∙◌, map}
use Rattle.std.proofs.lemmas.Iterator.{YieldsList-from_slice}
use Rattle.std.proofs.lemmas.Iterator.Search.{all_from_yields_List}
use Rattle.std.proofs.lemmas.List.Folds.{list_all-map}
use Rattle.serde_json.specs.View.{view}
use Rattle.dcql_rules.specs.Ids.{knows_all}
use Rattle.json_forms.specs.Look.{elements_of}
use Rattle.dcql_rules.proofs.ids.knows_all_lists.Goals as goal

pub returns : goal.returns
returns c =
    all_from_yields_List (λ v. knows_all (map view c.args.values.now) (elements_of (view v))) _ _ c.all.result
    c.all.ensures.ran
    (YieldsList-from_slice c.args.lists.now cc) (λ x b q k. search (rules, tests))
    ∙ sym (list_all-map (λ v. knows_all (map view c.args.values.now) (elements_of v)) view c.args.lists.now)
