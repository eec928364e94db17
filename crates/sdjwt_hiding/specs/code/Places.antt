-- The places of addresses in memory.
use Rattle.std.specs.Prelude.{ℕ, List, Option}
use Rattle.std.specs.BTreeMap.{get_by}
use Rattle.claim_names.specs.Order.{address_cmp}
use Rattle.claim_names.specs.declared.address.Step.{Step}
use Rattle.sdjwt_hiding.specs.declared.addresses.Places.{Places}

-- the place that an address has in a map
abbrev pub place_in : Places → List Step → Option ℕ
place_in places a = get_by (λ k. address_cmp a k.now) places.order
