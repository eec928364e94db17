use Rattle.std.proofs.Common.{rules, tests, sym, ◌∙◌}
use Rattle.std.proofs.lemmas.Iterator.{YieldsList-from_slice}
use Rattle.std.proofs.lemmas.Iterator.Search.{any_from_yields_List}
use Rattle.base_forms.proofs.Lists.{list_any-map}
use Rattle.serde_json.specs.View.{view}
use Rattle.request_content.specs.Content.{is_wallet}
use Rattle.request_content.proofs.content_rules.have_wallet.Goals as goal

pub returns : goal.returns
returns c =
    any_from_yields_List (λ v. is_wallet (view v)) _ _ c.any.result c.any.ensures.ran
    (YieldsList-from_slice c.args.members.now cc) (λ x b q k. search (rules, tests))
    ∙ sym (list_any-map is_wallet view c.args.members.now)
