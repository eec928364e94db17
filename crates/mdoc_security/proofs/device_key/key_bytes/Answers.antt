use Rattle.std.proofs.Common.{rules, ◌≡◌, [], ap, ◌∙◌, arith}
use Rattle.std.proofs.lemmas.Grind.{common_steps}
use Rattle.cbor_core.specs.Order.{owned, AppendsSortedMap}
use Rattle.mdoc_security.specs.DeviceKey.{map_bytes}
use Rattle.mdoc_security.proofs.KeyPairs.{written_in_order}
use Rattle.mdoc_security.proofs.device_key.key_bytes.Goals as goal

pub returns : goal.returns
returns c =
    let all : c.loop-pair.order.items ≡ c.in_ok-pairs.pairs.entries =
    grind (
      arith,
      common_steps,
      c.in-None.ensures.steps,
      c.loop-pair.invariant,
      c.into_iter-pair-iterator.ensures.into_iter_gives.0,
    ) in
    let appended : AppendsSortedMap [] c.finish.result.items (owned c.loop-pair.order.items) = search rules in
    written_in_order c.in_ok-pairs.pairs.entries c.loop-pair.order.items c.finish.result.items all
    c.into_iter-pair-iterator.ensures.into_iter_gives.5 appended
    ∙ ap map_bytes c.in_ok-pairs.ensures
