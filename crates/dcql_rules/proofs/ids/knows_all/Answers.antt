use Rattle.std.proofs.Common.{rules, tests, sym, ◌∙◌, map, false}
use Rattle.std.proofs.lemmas.Iterator.{YieldsList-from_slice}
use Rattle.std.proofs.lemmas.Iterator.Search.{all_from_yields_List}
use Rattle.std.proofs.lemmas.List.Folds.{list_all-map}
use Rattle.serde_json.specs.View.{view}
use Rattle.dcql_rules.specs.Ids.{is_known}
use Rattle.std.specs.Option.{option_map_or}
use Rattle.serde_json.specs.Find.{as_str}
use Rattle.dcql_rules.proofs.ids.knows_all.Goals as goal

pub returns : goal.returns
returns c =
    all_from_yields_List (λ v. option_map_or (is_known (map view c.args.values.now)) (as_str (view v)) false)
    _ _ c.all.result c.all.ensures.ran
    (YieldsList-from_slice c.args.names.now cc) (λ x b q k. search (rules, tests))
    ∙ sym (list_all-map (λ v. option_map_or (is_known (map view c.args.values.now)) (as_str v) false) view
    c.args.names.now)
