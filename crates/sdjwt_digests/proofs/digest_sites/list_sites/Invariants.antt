use Rattle.std.proofs.Common.{◌≡◌, ◌++◌, drop, map}
use Rattle.sdjwt_digests.specs.Disclosure.{said}
use Rattle.sdjwt_digests.specs.DigestSites.{sites_in}
use Rattle.sdjwt_digests.specs.code.Disclosures.{sites_said}
use Rattle.sdjwt_digests.proofs.digest_sites.list_sites.Given as goal

abbrev pub invariant-loop-disclosure : goal.invariant-loop-disclosure
invariant-loop-disclosure l =
    map sites_said l.values.items ++ map (λ d. sites_in d.value) (map said (drop l.disclosure-index l.list))
    ≡ map (λ d. sites_in d.value) (map said l.list)
