use Rattle.std.proofs.Common.{◌≡◌, true, ◌++◌, map}
use Rattle.std.specs.Vec.Iter.{into_iter_items}
use Rattle.claim_tree.specs.Tree.{ascend}
use Rattle.owned_tree.specs.Owned.{named_of}
use Rattle.claim_tree.specs.Ascending.{names_of}
use Rattle.sdjwt_disclosures.specs.code.MemberMap.{members_in}
use Rattle.sdjwt_disclosures.proofs.member_map.map_members.Given as goal

abbrev pub invariant-loop-member : goal.invariant-loop-member
invariant-loop-member l =
    (goal.iterator-loop-member).can_next l.member-iterator ×
    (goal.iterator-loop-member).is_finite l.member-iterator
    × (ascend (names_of (members_in l.by_name.entries)) ≡ true)
    × (members_in l.by_name.entries ++ map named_of (into_iter_items l.member-iterator)
    ≡ map named_of l.fn.members.items)
