use Rattle.std.proofs.Common.{rules, tests, sym, ◌∙◌}
use Rattle.std.proofs.lemmas.Iterator.{YieldsList-from_slice}
use Rattle.std.proofs.lemmas.Iterator.Search.{any_from_yields_List}
use Rattle.base_forms.proofs.Lists.{list_any-map}
use Rattle.serde_json.specs.View.{view}
use Rattle.dcql_rules.specs.Ids.{is_named}
use Rattle.dcql_rules.proofs.ids.is_known.Goals as goal

pub returns : goal.returns
returns c =
    any_from_yields_List (λ v. is_named c.args.id.now (view v)) _ _ c.any.result c.any.ensures.ran
    (YieldsList-from_slice c.args.values.now cc) (λ x b q k. search (rules, tests))
    ∙ sym (list_any-map (λ v. is_named c.args.id.now v) view c.args.values.now)
