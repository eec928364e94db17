use Rattle.std.proofs.Common.{◌≡◌, true, ◌+◌, ◌*◌, map, drop}
use Rattle.serde_json.specs.View.{items_view, members_view}
use Rattle.sdjwt_digests.specs.code.Disclosures.{all_said}
use Rattle.claim_tree.specs.Tree.{ascend}
use Rattle.claim_tree.specs.Ascending.{names_of}
use Rattle.owned_tree.specs.Owned.{part_of, named_of}
use Rattle.sdjwt_digests.specs.DigestSites.{texts_in}
use Rattle.sdjwt_disclosures.specs.code.MemberMap.{members_in}
use Rattle.owned_tree.specs.Prefixed.{prefixed}
use Rattle.sdjwt_disclosures.specs.DisclosedTree.{spelled, spelled_elements, plain_members, with_disclosures}
use Rattle.sdjwt_disclosures.proofs.disclosed_tree.+spell.Given as goal

abbrev pub decreases-spell : goal.decreases-spell
decreases-spell l = 8 * l.levels

abbrev pub decreases-put_disclosed : goal.decreases-put_disclosed
decreases-put_disclosed l = 8 * l.levels + 1

abbrev pub decreases-spell_element : goal.decreases-spell_element
decreases-spell_element l = 8 * l.levels + 1

abbrev pub decreases-spell_plain : goal.decreases-spell_plain
decreases-spell_plain l = 8 * l.levels + 1

abbrev pub decreases-spell_list : goal.decreases-spell_list
decreases-spell_list l = 8 * l.levels + 2

abbrev pub decreases-spell_disclosed : goal.decreases-spell_disclosed
decreases-spell_disclosed l = 8 * l.levels + 2

abbrev pub decreases-spell_members : goal.decreases-spell_members
decreases-spell_members l = 8 * l.levels + 3

abbrev pub decreases-spell_record : goal.decreases-spell_record
decreases-spell_record l = 8 * l.levels + 4

abbrev pub invariant-spell_list-loop-item : goal.invariant-spell_list-loop-item
invariant-spell_list-loop-item l =
    prefixed (map part_of l.elements.items)
    (spelled_elements (spelled l.levels (all_said l.disclosures)) (all_said l.disclosures)
    (items_view (drop l.item-index l.item-items))) ≡ spelled_elements
    (spelled l.levels (all_said l.disclosures)) (all_said l.disclosures) (items_view l.item-items)

abbrev pub invariant-spell_plain-loop-name : goal.invariant-spell_plain-loop-name
invariant-spell_plain-loop-name l =
    prefixed (map named_of l.members.items)
    (plain_members l.is_payload (spelled l.levels (all_said l.disclosures)) (members_view l.name-iterator))
    ≡ plain_members l.is_payload (spelled l.levels (all_said l.disclosures)) (members_view l.object.entries)

abbrev pub invariant-spell_disclosed-loop-item : goal.invariant-spell_disclosed-loop-item
invariant-spell_disclosed-loop-item l =
    (ascend (names_of (members_in l.by_name.entries)) ≡ true)
    × (with_disclosures (spelled l.levels (all_said l.disclosures)) (all_said l.disclosures)
    (texts_in (items_view (drop l.item-index l.item-items))) (members_in l.by_name.entries)
    ≡ with_disclosures (spelled l.levels (all_said l.disclosures)) (all_said l.disclosures)
    (texts_in (items_view l.item-items)) (members_in l.initial.by_name.entries))
