-- The names of members, and the order of their bytes.
use Rattle.std.specs.Prelude.{Bool, List}
use Rattle.std.specs.Ordering.{nat_cmp, is_lt}
use Rattle.std.specs.Cmp.Lexicographic.{slice_cmp}
use Rattle.claim_tree.specs.Tree.{Name, member_names}
use Rattle.claim_tree.specs.Parts.{Named, members_of}

-- the names of members
abbrev pub names_of : List Named → List Name
names_of ms = member_names (members_of ms)

-- the first name is less than the second
abbrev pub below : Name → Name → Bool
below k l = is_lt (slice_cmp nat_cmp k l)
