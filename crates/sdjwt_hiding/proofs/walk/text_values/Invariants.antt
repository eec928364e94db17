use Rattle.std.proofs.Common.{◌≡◌, length, map, string_bytes}
use Rattle.std.specs.Vec.Iter.{into_iter_items, into_iter_len}
use Rattle.sdjwt_hiding.specs.Hiding.{texts}
use Rattle.sdjwt_hiding.proofs.WalkSteps.{before_items}
use Rattle.sdjwt_hiding.proofs.walk.text_values.Given as goal

abbrev pub invariant-loop-text : goal.invariant-loop-text
invariant-loop-text l = (into_iter_len l.text-iterator ≡ length (into_iter_items l.text-iterator))
    × (before_items l.values.items (texts (map string_bytes (into_iter_items l.text-iterator)))
    ≡ texts (map string_bytes l.fn.list.items))
