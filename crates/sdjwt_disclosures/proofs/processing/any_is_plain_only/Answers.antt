use Rattle.std.proofs.Common.{rules, tests, sym, ◌∙◌}
use Rattle.std.proofs.lemmas.Iterator.{YieldsList-from_slice}
use Rattle.std.proofs.lemmas.Iterator.Search.{any_from_yields_List}
use Rattle.base_forms.proofs.Lists.{list_any-map}
use Rattle.base_forms.specs.Texts.{is_among}
use Rattle.sdjwt_disclosures.specs.MemberNames.{plain_only}
use Rattle.sdjwt_disclosures.proofs.processing.any_is_plain_only.Goals as goal

pub returns : goal.returns
returns c =
    any_from_yields_List (λ s. is_among s.now plain_only) _ _ c.any.result c.any.ensures.ran
    (YieldsList-from_slice c.args.names.now cc) (λ x b q k. search (rules, tests))
    ∙ sym (list_any-map (λ k. is_among k plain_only) (λ s. s.now) c.args.names.now)
