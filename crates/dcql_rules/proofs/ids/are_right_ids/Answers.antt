use Rattle.std.proofs.Common.{rules, tests, sym, ◌∙◌, codes, not}
use Rattle.std.proofs.lemmas.Iterator.{YieldsList-from_slice}
use Rattle.std.proofs.lemmas.Iterator.Search.{all_from_yields_List}
use Rattle.std.proofs.lemmas.List.Folds.{list_all-map}
use Rattle.serde_json.specs.View.{view}
use Rattle.dcql_rules.specs.Ids.{is_id_text}
use Rattle.serde_json.specs.Find.{get}
use Rattle.json_forms.specs.Look.{is_wrong}
use Rattle.dcql_rules.proofs.ids.are_right_ids.Goals as goal

pub returns : goal.returns
returns c =
    all_from_yields_List (λ v. not (is_wrong is_id_text (get (codes "id") (view v)))) _ _ c.all.result
    c.all.ensures.ran
    (YieldsList-from_slice c.args.values.now cc) (λ x b q k. search (rules, tests))
    ∙ sym (list_all-map (λ v. not (is_wrong is_id_text (get (codes "id") v))) view c.args.values.now)
