-- The same named trees, in the order of their names.
use Rattle.std.specs.Prelude.{List}
use Rattle.std.specs.Ordering.{nat_cmp, is_lt}
use Rattle.std.specs.Cmp.Lexicographic.{slice_cmp}
use Rattle.std.specs.List.Sorted.{IsPermutation, IsSortedBy}
use Rattle.mdoc_items.specs.Value.{Valued}

abbrev pub AreSorted : List Valued → List Valued → Type 0
AreSorted ms ls = IsPermutation ms ls × IsSortedBy (λ a b. is_lt (slice_cmp nat_cmp a.0 b.0)) ls
