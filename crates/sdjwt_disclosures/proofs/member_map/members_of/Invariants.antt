use Rattle.std.proofs.Common.{◌≡◌, ◌++◌, map}
use Rattle.owned_tree.specs.Owned.{named_of}
use Rattle.sdjwt_disclosures.specs.code.MemberMap.{members_in}
use Rattle.sdjwt_disclosures.proofs.member_map.members_of.Given as goal

abbrev pub invariant-loop-name : goal.invariant-loop-name
invariant-loop-name l =
    map named_of l.members.items ++ members_in l.name-iterator ≡ members_in l.initial.name-iterator
