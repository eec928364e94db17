use Rattle.std.proofs.Common.{rules, tests, sym, ◌∙◌, ap, map}
use Rattle.std.proofs.lemmas.Iterator.{YieldsList-from_slice}
use Rattle.std.proofs.lemmas.Iterator.Search.{any_from_yields_List}
use Rattle.std.specs.List.{list_any}
use Rattle.base_forms.proofs.Lists.{list_any-map}
use Rattle.sdjwt_digests.specs.code.Disclosures.{all_said, site_of}
use Rattle.sdjwt_disclosures.specs.DisclosureRules.{is_mismatch}
use Rattle.sdjwt_disclosures.proofs.site_kinds.any_mismatch.Goals as goal

pub returns : goal.returns
returns c =
    let test = is_mismatch (all_said c.args.disclosures.now) in
    any_from_yields_List (λ s. test (site_of s)) _ _ c.any.result c.any.ensures.ran
    (YieldsList-from_slice c.deref.result.now cc) (λ x b q k. search (rules, tests))
    ∙ (sym (list_any-map test site_of c.deref.result.now)
    ∙ ap (λ l. list_any test (map site_of l)) c.deref.ensures.value)
