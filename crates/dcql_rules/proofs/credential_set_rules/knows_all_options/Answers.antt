use Rattle.std.proofs.Common.{rules, tests, sym, ◌∙◌, map, codes}
use Rattle.std.proofs.lemmas.Iterator.{YieldsList-from_slice}
use Rattle.std.proofs.lemmas.Iterator.Search.{all_from_yields_List}
use Rattle.std.proofs.lemmas.List.Folds.{list_all-map}
use Rattle.serde_json.specs.View.{view}
use Rattle.dcql_rules.specs.Ids.{knows_all_lists}
use Rattle.json_forms.specs.Look.{elements_at}
use Rattle.dcql_rules.proofs.credential_set_rules.knows_all_options.Goals as goal

pub returns : goal.returns
returns c =
    all_from_yields_List (λ v. knows_all_lists (map view c.args.queries.now)
    (elements_at (codes "options") (view v))) _ _ c.all.result c.all.ensures.ran
    (YieldsList-from_slice c.args.sets.now cc) (λ x b q k. search (rules, tests))
    ∙ sym (list_all-map (λ v. knows_all_lists (map view c.args.queries.now) (elements_at (codes "options") v))
    view c.args.sets.now)
