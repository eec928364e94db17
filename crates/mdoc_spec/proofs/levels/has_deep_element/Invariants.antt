use Rattle.std.proofs.Common.{◌≡◌}
use Rattle.serde_json.specs.View.{members_view}
use Rattle.mdoc_spec.specs.Elements.{has_deep_element}
use Rattle.mdoc_spec.proofs.levels.has_deep_element.Given as goal

abbrev pub invariant-loop-namespace : goal.invariant-loop-namespace
invariant-loop-namespace l =
    (goal.iterator-loop-namespace).can_next l.namespace-iterator
    × (goal.iterator-loop-namespace).is_finite l.namespace-iterator
    × (has_deep_element (members_view l.namespace-iterator) ≡ has_deep_element
    (members_view l.namespaces.entries))
