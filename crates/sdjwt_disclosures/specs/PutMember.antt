-- A member that comes to others, which stand in the order of their names.
use Rattle.std.specs.Prelude.{List, [], ◌∷◌}
use Rattle.std.specs.Ordering.{nat_cmp, match_ordering}
use Rattle.std.specs.Cmp.Lexicographic.{slice_cmp}
use Rattle.claim_tree.specs.Parts.{Named}

-- The member stands before the first whose name is greater by its bytes. Where its name is there already,
-- nothing comes.
abbrev pub put_member : Named → List Named → List Named
put_member m [] = m ∷ []
put_member m (l ∷ ls) = match_ordering (slice_cmp nat_cmp m.0 l.0) (m ∷ l ∷ ls) (l ∷ ls) (l ∷ put_member m ls)
