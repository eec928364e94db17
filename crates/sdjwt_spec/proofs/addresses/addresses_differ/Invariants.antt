use Rattle.std.proofs.Common.{◌≡◌, drop}
use Rattle.sdjwt_spec.specs.Addresses.{addresses_differ}
use Rattle.sdjwt_spec.proofs.addresses.addresses_differ.Given as goal

abbrev pub invariant-loop-place : goal.invariant-loop-place
invariant-loop-place l = addresses_differ (drop l.place l.addresses) ≡ addresses_differ l.addresses
