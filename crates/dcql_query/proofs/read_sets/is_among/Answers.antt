use Rattle.std.proofs.Common.{rules, tests, sym, ◌∙◌, false}
use Rattle.std.proofs.lemmas.Iterator.{YieldsList-from_slice}
use Rattle.std.proofs.lemmas.Iterator.Search.{any_from_yields_List}
use Rattle.base_forms.proofs.Lists.{list_any-map}
use Rattle.serde_json.specs.View.{view}
use Rattle.dcql_rules.specs.Ids.{is_named}
use Rattle.std.specs.Option.{option_map_or}
use Rattle.serde_json.specs.Find.{as_str}
use Rattle.dcql_query.proofs.read_sets.is_among.Goals as goal

pub returns : goal.returns
returns c =
    any_from_yields_List (λ v. option_map_or (λ s. is_named s (view c.args.query.now))
    (as_str (view v)) false) _ _ c.any.result c.any.ensures.ran
    (YieldsList-from_slice c.args.names.now cc) (λ x b q k. search (rules, tests))
    ∙ sym (list_any-map (λ v. option_map_or (λ s. is_named s (view c.args.query.now)) (as_str v) false) view
    c.args.names.now)
