use Rattle.std.proofs.Common.{rules, tests, sym, ◌∙◌}
use Rattle.std.proofs.lemmas.Iterator.{YieldsList-from_slice}
use Rattle.std.proofs.lemmas.Iterator.Search.{all_from_yields_List}
use Rattle.std.proofs.lemmas.List.Folds.{list_all-map}
use Rattle.sdjwt_digests.specs.Disclosure.{said}
use Rattle.sdjwt_digests.specs.ReservedNames.{is_sound}
use Rattle.sdjwt_digests.proofs.reserved_names.are_values_sound.Goals as goal

pub returns : goal.returns
returns c =
    all_from_yields_List (λ d. is_sound (said d).value) _ _ c.all.result c.all.ensures.ran
    (YieldsList-from_slice c.args.disclosures.now cc) (λ x b q k. search (rules, tests))
    ∙ sym (list_all-map (λ l. is_sound l.value) said c.args.disclosures.now)
