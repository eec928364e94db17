use Rattle.std.proofs.Common.{◌≡◌, ◌++◌, map}
use Rattle.std.specs.Vec.Iter.{into_iter_items}
use Rattle.owned_tree.specs.Owned.{named_of}
use Rattle.mdoc_items.specs.Value.{marked}
use Rattle.mdoc_items.specs.code.Valued.{valued}
use Rattle.mdoc_items.proofs.value.owned.Given as goal

abbrev pub invariant-loop-name : goal.invariant-loop-name
invariant-loop-name l =
    (goal.iterator-loop-name).can_next l.name-iterator ×
    (goal.iterator-loop-name).is_finite l.name-iterator
    × (map named_of l.list.items ++ marked l.held (valued (into_iter_items l.name-iterator)) ≡ marked l.held
    (valued l.fn.members.items))
