use Rattle.std.proofs.Common.{◌≡◌, drop, map}
use Rattle.serde_json.specs.View.{view}
use Rattle.sdjwt_spec.specs.Addresses.{all_some, address_of}
use Rattle.sdjwt_spec.proofs.AllSome.{with_rest}
use Rattle.sdjwt_spec.proofs.addresses.read_each_address.Given as goal

abbrev pub invariant-loop-value : goal.invariant-loop-value
invariant-loop-value l =
    with_rest l.addresses.items (map address_of (map view (drop l.value-index l.values)))
    ≡ all_some (map address_of (map view l.values))
