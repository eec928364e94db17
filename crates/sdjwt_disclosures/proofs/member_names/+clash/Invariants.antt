use Rattle.std.proofs.Common.{◌≡◌, drop}
use Rattle.serde_json.specs.View.{items_view, members_view}
use Rattle.sdjwt_digests.specs.code.Disclosures.{all_said}
use Rattle.sdjwt_disclosures.specs.MemberNames.{items_have_clash, members_have_clash}
use Rattle.sdjwt_disclosures.proofs.member_names.+clash.Given as goal

abbrev pub invariant-items_have_clash-loop-item : goal.invariant-items_have_clash-loop-item
invariant-items_have_clash-loop-item l =
    items_have_clash (all_said l.disclosures) (items_view (drop l.item-index l.item-items)) ≡ items_have_clash
    (all_said l.disclosures) (items_view l.item-items)

abbrev pub invariant-members_have_clash-loop-name : goal.invariant-members_have_clash-loop-name
invariant-members_have_clash-loop-name l =
    members_have_clash (all_said l.disclosures) (members_view l.name-iterator) ≡ members_have_clash
    (all_said l.disclosures) (members_view l.object.entries)
