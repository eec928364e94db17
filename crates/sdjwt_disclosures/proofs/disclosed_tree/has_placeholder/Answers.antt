use Rattle.std.proofs.Common.{rules, tests, sym, ◌∙◌, ap, map}
use Rattle.std.proofs.lemmas.Iterator.{YieldsList-from_slice}
use Rattle.std.proofs.lemmas.Iterator.Search.{any_from_yields_List}
use Rattle.serde_json.specs.View.{view, items_view}
use Rattle.base_forms.proofs.Lists.{list_any-map}
use Rattle.sdjwt_digests.specs.DigestSites.{is_placeholder}
use Rattle.sdjwt_disclosures.specs.DisclosedTree.{has_placeholder}
use Rattle.sdjwt_disclosures.proofs.ListedPlaceholders.{placeholders_listed}
use Rattle.sdjwt_disclosures.proofs.disclosed_tree.has_placeholder.Goals as goal

pub returns : goal.returns
returns c =
    any_from_yields_List (λ v. is_placeholder (view v)) _ _ c.any.result c.any.ensures.ran
    (YieldsList-from_slice c.deref.result.now cc) (λ x b q k. search (rules, tests))
    ∙ (sym (list_any-map is_placeholder view c.deref.result.now)
    ∙ (sym (placeholders_listed (map view c.deref.result.now))
    ∙ ap (λ l. has_placeholder (items_view l)) c.deref.ensures.value))
