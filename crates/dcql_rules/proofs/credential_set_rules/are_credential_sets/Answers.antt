use Rattle.std.proofs.Common.{rules, tests, sym, ◌∙◌}
use Rattle.std.proofs.lemmas.Iterator.{YieldsList-from_slice}
use Rattle.std.proofs.lemmas.Iterator.Search.{all_from_yields_List}
use Rattle.std.proofs.lemmas.List.Folds.{list_all-map}
use Rattle.serde_json.specs.View.{view}
use Rattle.dcql_rules.specs.Rules.{is_credential_set}
use Rattle.dcql_rules.proofs.credential_set_rules.are_credential_sets.Goals as goal

pub returns : goal.returns
returns c =
    all_from_yields_List (λ v. is_credential_set (view v)) _ _ c.all.result c.all.ensures.ran
    (YieldsList-from_slice c.args.sets.now cc) (λ x b q k. search (rules, tests))
    ∙ sym (list_all-map (λ v. is_credential_set v) view c.args.sets.now)
