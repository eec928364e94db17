use Rattle.std.proofs.Common.{◌≡◌, ◌≤◌, ◌+◌}
use Rattle.serde_json.specs.View.{members_view}
use Rattle.mdoc_object.specs.Namespaces.{element_count}
use Rattle.mdoc_spec.proofs.elements.are_too_many.Given as goal

abbrev pub invariant-loop-namespace : goal.invariant-loop-namespace
invariant-loop-namespace l =
    (goal.iterator-loop-namespace).can_next l.namespace-iterator
    × (goal.iterator-loop-namespace).is_finite l.namespace-iterator × (l.count ≤ 1_024)
    × (l.count + element_count (members_view l.namespace-iterator) ≡ element_count
    (members_view l.namespaces.entries))
