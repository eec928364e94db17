use Rattle.std.proofs.Common.{◌≡◌, ◌++◌, drop, map}
use Rattle.sdjwt_digests.specs.code.Disclosures.{site_of}
use Rattle.sdjwt_digests.specs.DigestSites.{digest_at}
use Rattle.sdjwt_digests.proofs.digest_sites.add_digests.Given as goal

abbrev pub invariant-loop-site : goal.invariant-loop-site
invariant-loop-site l =
    map (λ s. s.now) l.digests.items ++ map digest_at (map site_of (drop l.site-index l.site-items)) ≡ map
    (λ s. s.now) l.initial.digests.items ++ map digest_at (map site_of l.site-items)
