use Rattle.std.proofs.Common.{rules, tests, sym, ◌∙◌, is_some}
use Rattle.std.proofs.lemmas.Iterator.{YieldsList-from_slice}
use Rattle.std.proofs.lemmas.Iterator.Search.{any_from_yields_List}
use Rattle.base_forms.proofs.Lists.{list_any-map}
use Rattle.serde_json.specs.Find.{get_member}
use Rattle.serde_json.specs.View.{members_view}
use Rattle.sdjwt_disclosures.proofs.member_names.has_any_member.Goals as goal

pub returns : goal.returns
returns c =
    any_from_yields_List (λ s. is_some (get_member s.now (members_view c.args.object.now.entries))) _ _
    c.any.result c.any.ensures.ran
    (YieldsList-from_slice c.args.names.now cc) (λ x b q k. search (rules, tests))
    ∙ sym (list_any-map (λ k. is_some (get_member k (members_view c.args.object.now.entries))) (λ s. s.now)
    c.args.names.now)
