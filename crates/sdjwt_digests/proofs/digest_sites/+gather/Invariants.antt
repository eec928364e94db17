use Rattle.std.proofs.Common.{◌≡◌, ◌++◌, drop, map}
use Rattle.serde_json.specs.View.{items_view, members_view}
use Rattle.sdjwt_digests.specs.code.Disclosures.{site_of}
use Rattle.sdjwt_digests.specs.DigestSites.{sites_in_items, sites_in_members}
use Rattle.sdjwt_digests.proofs.digest_sites.+gather.Given as goal

abbrev pub invariant-gather_list-loop-item : goal.invariant-gather_list-loop-item
invariant-gather_list-loop-item l =
    map site_of l.sites.items ++ sites_in_items (items_view (drop l.item-index l.item-items))
    ≡ map site_of l.initial.sites.items ++ sites_in_items (items_view l.item-items)

abbrev pub invariant-gather_object-loop-name : goal.invariant-gather_object-loop-name
invariant-gather_object-loop-name l =
    map site_of l.sites.items ++ sites_in_members (members_view l.name-iterator)
    ≡ map site_of l.initial.sites.items ++ sites_in_members (members_view l.object.entries)
