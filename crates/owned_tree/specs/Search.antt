-- The place of a name among names that ascend by their bytes.
use Rattle.std.specs.Prelude.{◌≡◌, ℕ, ◌≤◌, true, List, Some, Result, Ok, Err, length, take, drop, slice_get}
use Rattle.std.specs.List.{list_all}
use Rattle.claim_tree.specs.Tree.{Name}
use Rattle.claim_tree.specs.Ascending.{below}

-- the place where the name is, or the place where it would be put: the names before are less, those from
-- there on greater
abbrev pub IsPlaceOf : Name → List Name → Result ℕ ℕ → Type 0
IsPlaceOf k ks (Ok i) = slice_get ks i ≡ Some k
IsPlaceOf k ks (Err i) = (i ≤ length ks) × (list_all (λ l. below l k) (take i ks) ≡ true)
    × (list_all (below k) (drop i ks) ≡ true)
