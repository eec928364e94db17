use Rattle.std.proofs.Common.{◌≡◌, drop}
use Rattle.std.specs.Prelude.{nat_lt}
use Rattle.serde_json.specs.View.{items_view, members_view}
use Rattle.serde_json.specs.Data.{items_depth, members_depth}
use Rattle.spec_forms.proofs.levels.+deeper.Given as goal

abbrev pub invariant-items_are_deeper-loop-item : goal.invariant-items_are_deeper-loop-item
invariant-items_are_deeper-loop-item l =
    nat_lt l.levels (items_depth (items_view (drop l.item-index l.item-items)))
    ≡ nat_lt l.levels (items_depth (items_view l.item-items))

abbrev pub invariant-members_are_deeper-loop-member : goal.invariant-members_are_deeper-loop-member
invariant-members_are_deeper-loop-member l =
    nat_lt l.levels (members_depth (members_view l.member-iterator))
    ≡ nat_lt l.levels (members_depth (members_view l.object.entries))
