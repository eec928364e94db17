use Rattle.std.proofs.Common.{◌≡◌, ◌∷◌, drop}
use Rattle.mdoc_items.specs.Value.{rise}
use Rattle.mdoc_items.specs.code.Valued.{value_in, valued}
use Rattle.mdoc_items.proofs.value.rise.Given as goal

abbrev pub invariant-loop-member : goal.invariant-loop-member
invariant-loop-member l =
    rise (value_in l.before ∷ valued (drop l.member-index l.rest)) ≡ rise (valued l.members)
