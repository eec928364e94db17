use Rattle.std.proofs.Common.{◌≡◌, drop}
use Rattle.serde_json.specs.View.{items_view, members_view}
use Rattle.sdjwt_hiding.specs.Hiding.{are_free, has_free}
use Rattle.spec_forms.proofs.names.+free.Given as goal

abbrev pub invariant-are_free-loop-item : goal.invariant-are_free-loop-item
invariant-are_free-loop-item l =
    are_free (items_view (drop l.item-index l.item-items)) ≡ are_free (items_view l.item-items)

abbrev pub invariant-has_free-loop-name : goal.invariant-has_free-loop-name
invariant-has_free-loop-name l =
    has_free (members_view l.name-iterator) ≡ has_free (members_view l.object.entries)
