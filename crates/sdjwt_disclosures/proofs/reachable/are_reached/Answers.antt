use Rattle.std.proofs.Common.{◌≡◌, rules, tests, suc, ◌+◌, false, length, map, sym, ap, ◌∙◌}
use Rattle.std.specs.Prelude.{replicate}
use Rattle.std.specs.List.{list_all}
use Rattle.std.proofs.lemmas.Iterator.{YieldsList-from_slice}
use Rattle.std.proofs.lemmas.Iterator.Search.{all_from_yields_List}
use Rattle.std.proofs.lemmas.List.{length-map}
use Rattle.sdjwt_digests.specs.Disclosure.{said}
use Rattle.sdjwt_digests.specs.code.Disclosures.{all_said, site_of, sites_said}
use Rattle.sdjwt_disclosures.specs.code.Marked.{marked, walked}
use Rattle.sdjwt_disclosures.proofs.Marked.{all_marked, one_more}
use Rattle.sdjwt_disclosures.proofs.reachable.are_reached.Goals as goal

pub returns : goal.returns
returns c =
    let ls = all_said c.args.disclosures.now in
    let sites = sites_said c.args.sites.now.payload in
    let count : length c.list-count.result.now ≡ length (all_said c.args.disclosures.now) =
    sym (length-map c.list-count.result.now said) ∙ ap length c.list-count.ensures in
    let n = length c.list-count.result.now in
    let marks : c.mark_reached.new.marks.items ≡ marked (walked (n + 1) ls sites) ls (replicate n false) =
    c.mark_reached.ensures
    ∙ ap (λ ss. marked (walked (n + 1) ls (map site_of ss)) ls c.in_ok-marks.marks.items)
    c.deref-2.ensures.value
    ∙ ap (marked (walked (n + 1) ls sites) ls)
    (c.in_ok-marks.ensures.items_if_clones_equal (λ y same. same)) in
    all_from_yields_List (λ b. b) _ _ c.all.result c.all.ensures.ran
    (YieldsList-from_slice c.deref-3.result.now cc) (λ x b q k. search (rules, tests))
    ∙ ap (list_all (λ b. b)) (c.deref-3.ensures.value ∙ marks)
    ∙ ap (λ n. list_all (λ b. b) (marked (walked (n + 1) ls sites) ls (replicate n false))) count
    ∙ ap (λ n. list_all (λ b. b) (marked (walked n ls sites) ls (replicate (length ls) false)))
    (one_more (length ls))
    ∙ all_marked (walked (suc (length ls)) ls sites) ls
