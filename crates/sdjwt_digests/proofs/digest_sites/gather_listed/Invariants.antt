use Rattle.std.proofs.Common.{◌≡◌, ◌++◌, drop, map}
use Rattle.serde_json.specs.View.{items_view}
use Rattle.sdjwt_digests.specs.code.Disclosures.{site_of}
use Rattle.sdjwt_digests.specs.DigestSites.{texts_in, in_object}
use Rattle.sdjwt_digests.proofs.digest_sites.gather_listed.Given as goal

abbrev pub invariant-loop-item : goal.invariant-loop-item
invariant-loop-item l =
    map site_of l.sites.items ++ map in_object (texts_in (items_view (drop l.item-index l.item-items)))
    ≡ map site_of l.initial.sites.items ++ map in_object (texts_in (items_view l.item-items))
