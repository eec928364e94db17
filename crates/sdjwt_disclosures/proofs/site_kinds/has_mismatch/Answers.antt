use Rattle.std.proofs.Common.{rules, tests, sym, ◌∙◌, ap}
use Rattle.std.proofs.lemmas.Iterator.{YieldsList-from_slice}
use Rattle.std.proofs.lemmas.Iterator.Search.{any_from_yields_List}
use Rattle.std.specs.List.{list_any}
use Rattle.sdjwt_digests.specs.code.Disclosures.{all_said, sites_said}
use Rattle.sdjwt_disclosures.specs.DisclosureRules.{is_mismatch}
use Rattle.sdjwt_disclosures.proofs.ProcessingSteps.{any_together}
use Rattle.sdjwt_disclosures.proofs.site_kinds.has_mismatch.Goals as goal

pub returns-else-any_mismatch : goal.returns-else-any_mismatch
returns-else-any_mismatch c =
    let test = is_mismatch (all_said c.args.disclosures.now) in
    any_from_yields_List (λ v. list_any test (sites_said v)) _ _ c.any.result c.any.ensures.ran
    (YieldsList-from_slice c.deref.result.now cc) (λ x b q k. search (rules, tests))
    ∙ (ap (list_any (λ v. list_any test (sites_said v))) c.deref.ensures.value
    ∙ sym (any_together test (sites_said c.args.sites.now.payload) c.args.sites.now.values.items
    (sym c.any_mismatch.ensures ∙ c.if-any_mismatch.false)))
