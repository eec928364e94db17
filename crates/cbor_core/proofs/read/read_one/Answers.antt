use Rattle.std.proofs.Common.{◌≡◌, List, ℕ, Some, Bor, sym, ap, ◌∙◌}
use Rattle.std.specs.Prelude.{option_map}
use Rattle.cbor_validity.specs.Fine.{fine_at}
use Rattle.cbor_validity.proofs.OneWalk.{whole_item}
use Rattle.cbor_core.proofs.read.read_one.Goals as goal

pub of-requires : goal.of-requires
of-requires c =
    let found : fine_at c.args.depth c.args.bytes.now ≡ Some c.in-Some-empty.field-0.now =
    sym c.in_ok-after_fine.ensures ∙ ap (option_map (λ (r : Bor (List ℕ)). r.now)) c.in-Some-empty.is in
    whole_item c.args.depth c.args.bytes.now c.in-Some-empty.field-0.now c.requires found
    c.in-Some-empty.len_below
