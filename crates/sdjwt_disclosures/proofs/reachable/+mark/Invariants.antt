use Rattle.std.proofs.Common.{◌≡◌, ◌+◌, ◌-◌, suc, drop, length, map}
use Rattle.sdjwt_digests.specs.code.Disclosures.{all_said, site_of}
use Rattle.sdjwt_digests.specs.DigestSites.{sites_in}
use Rattle.sdjwt_disclosures.specs.code.Marked.{marked, walked, walked_by}
use Rattle.sdjwt_disclosures.proofs.reachable.+mark.Given as goal

abbrev pub decreases-mark_reached : goal.decreases-mark_reached
decreases-mark_reached l = l.fuel + l.fuel

abbrev pub decreases-mark_site : goal.decreases-mark_site
decreases-mark_site l = suc (l.fuel + l.fuel)

abbrev pub invariant-mark_reached-loop-site : goal.invariant-mark_reached-loop-site
invariant-mark_reached-loop-site l = record {
  rest : marked (walked_by (λ d. walked (l.fuel - 1) (all_said l.disclosures) (sites_in d))
      (all_said l.disclosures) (map site_of (drop l.site-index l.sites))) (all_said l.disclosures)
      l.marks.items
      ≡ marked (walked_by (λ d. walked (l.fuel - 1) (all_said l.disclosures) (sites_in d))
      (all_said l.disclosures) (map site_of l.sites)) (all_said l.disclosures) l.initial.marks.items;
  count : length l.marks.items ≡ length (all_said l.disclosures);
}
