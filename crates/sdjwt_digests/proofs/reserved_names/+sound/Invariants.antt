use Rattle.std.proofs.Common.{◌≡◌, drop}
use Rattle.serde_json.specs.View.{items_view, members_view}
use Rattle.sdjwt_digests.specs.ReservedNames.{are_items_sound, are_members_sound}
use Rattle.sdjwt_digests.proofs.reserved_names.+sound.Given as goal

abbrev pub invariant-are_items_sound-loop-item : goal.invariant-are_items_sound-loop-item
invariant-are_items_sound-loop-item l =
    are_items_sound (items_view (drop l.item-index l.item-items)) ≡ are_items_sound (items_view l.item-items)

abbrev pub invariant-are_members_sound-loop-name : goal.invariant-are_members_sound-loop-name
invariant-are_members_sound-loop-name l =
    are_members_sound (members_view l.name-iterator) ≡ are_members_sound (members_view l.object.entries)
