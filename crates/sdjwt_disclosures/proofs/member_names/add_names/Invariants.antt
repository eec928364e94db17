use Rattle.std.proofs.Common.{◌≡◌, ◌++◌, drop, map}
use Rattle.serde_json.specs.View.{items_view}
use Rattle.sdjwt_digests.specs.code.Disclosures.{all_said}
use Rattle.sdjwt_digests.specs.DigestSites.{texts_in}
use Rattle.sdjwt_disclosures.specs.MemberNames.{disclosed_names}
use Rattle.sdjwt_disclosures.proofs.member_names.add_names.Given as goal

abbrev pub invariant-loop-item : goal.invariant-loop-item
invariant-loop-item l =
    map (λ s. s.now) l.names.items ++ disclosed_names (all_said l.disclosures)
    (texts_in (items_view (drop l.item-index l.item-items))) ≡ map (λ s. s.now) l.initial.names.items
    ++ disclosed_names (all_said l.disclosures) (texts_in (items_view l.item-items))
