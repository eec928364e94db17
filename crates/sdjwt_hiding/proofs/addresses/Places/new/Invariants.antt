use Rattle.std.proofs.Common.{◌≡◌, drop, List}
use Rattle.std.specs.BTreeMap.{get_by}
use Rattle.claim_names.specs.Order.{address_cmp}
use Rattle.claim_names.specs.declared.address.Step.{Step}
use Rattle.sdjwt_hiding.specs.Addresses.{number_in}
use Rattle.sdjwt_hiding.proofs.Placing.{shifted}
use Rattle.sdjwt_hiding.proofs.addresses.Places.new.Given as goal

abbrev pub invariant-loop-i : goal.invariant-loop-i
invariant-loop-i l = (a : List Step)
    → get_by (λ k. address_cmp a k.now) l.order ≡ shifted l.i (number_in (drop l.i l.addresses) a)
