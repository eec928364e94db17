use Rattle.std.proofs.Common.{rules, tests, sym, ◌∙◌}
use Rattle.std.proofs.lemmas.Iterator.{YieldsList-from_slice}
use Rattle.std.proofs.lemmas.Iterator.Search.{any_from_yields_List}
use Rattle.base_forms.proofs.Lists.{list_any-map}
use Rattle.sdjwt_digests.specs.Disclosure.{said}
use Rattle.sdjwt_digests.specs.ReservedNames.{has_reserved_name}
use Rattle.sdjwt_digests.proofs.reserved_names.any_has_reserved_name.Goals as goal

pub returns : goal.returns
returns c =
    any_from_yields_List (λ d. has_reserved_name (said d)) _ _ c.any.result c.any.ensures.ran
    (YieldsList-from_slice c.args.disclosures.now cc) (λ x b q k. search (rules, tests))
    ∙ sym (list_any-map has_reserved_name said c.args.disclosures.now)
