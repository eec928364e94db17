use Rattle.std.proofs.Common.{◌≡◌, ◌++◌, drop, map}
use Rattle.std.specs.List.{flat_map}
use Rattle.sdjwt_digests.specs.code.Disclosures.{sites_said}
use Rattle.sdjwt_digests.specs.DigestSites.{digest_at}
use Rattle.sdjwt_digests.proofs.digest_sites.Sites.digests.Given as goal

abbrev pub invariant-loop-sites : goal.invariant-loop-sites
invariant-loop-sites l =
    map (λ s. s.now) l.digests.items ++ map digest_at (flat_map sites_said (drop l.sites-index l.sites-items))
    ≡ map (λ s. s.now) l.initial.digests.items ++ map digest_at (flat_map sites_said l.sites-items)
