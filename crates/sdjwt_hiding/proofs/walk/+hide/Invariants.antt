use Rattle.std.proofs.Common.{◌≡◌, drop, map, string_bytes}
use Rattle.serde_json.specs.View.{members_view}
use Rattle.sdjwt_hiding.specs.code.Walk.{marks_at}
use Rattle.sdjwt_hiding.specs.Issued.{all_made}
use Rattle.sdjwt_hiding.proofs.WalkSteps.{Keeps, KeepsMembers}
use Rattle.sdjwt_hiding.proofs.walk.+hide.Given as goal

abbrev pub invariant-hide_list-loop-item : goal.invariant-hide_list-loop-item
invariant-hide_list-loop-item l =
    (l.place ≡ l.item-index) × (l.path ≡ l.fn.path)
    × Keeps (marks_at l.marked l.fn.path) l.place (drop l.item-index l.item-items) l.item-items l.items.items
    (all_made l.made.items) (all_made l.fn.made.items)

abbrev pub invariant-hide_object-loop-name : goal.invariant-hide_object-loop-name
invariant-hide_object-loop-name l =
    (goal.iterator-hide_object-loop-name).can_next l.name-iterator
    × (goal.iterator-hide_object-loop-name).is_finite l.name-iterator × (l.path ≡ l.fn.path)
    × KeepsMembers (marks_at l.marked l.fn.path) (members_view l.name-iterator)
    (members_view l.object.entries) (members_view l.members.entries) (map string_bytes l.digests.items)
    (all_made l.made.items) (all_made l.fn.made.items)
