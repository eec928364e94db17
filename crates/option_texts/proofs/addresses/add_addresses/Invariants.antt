use Rattle.std.proofs.Common.{◌≡◌, ◌++◌, drop, string_bytes, flat_map}
use Rattle.option_texts.specs.Addresses.{address_line}
use Rattle.option_texts.proofs.addresses.add_addresses.Given as goal

abbrev pub invariant-loop-address : goal.invariant-loop-address
invariant-loop-address l =
    string_bytes l.text ++ flat_map address_line (drop l.address-index l.addresses)
    ≡ string_bytes l.fn.text ++ flat_map address_line l.fn.addresses
