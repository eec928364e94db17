use Rattle.std.proofs.Common.{◌≡◌, drop}
use Rattle.std.specs.Prelude.{nat_lt}
use Rattle.serde_json.specs.View.{items_view, members_view}
use Rattle.mdoc_spec.specs.Elements.{items_levels, members_levels}
use Rattle.mdoc_spec.proofs.levels.+deeper.Given as goal

abbrev pub invariant-items_are_deeper-loop-item : goal.invariant-items_are_deeper-loop-item
invariant-items_are_deeper-loop-item l =
    nat_lt l.most (items_levels (items_view (drop l.item-index l.item-items)))
    ≡ nat_lt l.most (items_levels (items_view l.item-items))

abbrev pub invariant-members_are_deeper-loop-member : goal.invariant-members_are_deeper-loop-member
invariant-members_are_deeper-loop-member l =
    nat_lt l.most (members_levels (members_view l.member-iterator))
    ≡ nat_lt l.most (members_levels (members_view l.object.entries))
