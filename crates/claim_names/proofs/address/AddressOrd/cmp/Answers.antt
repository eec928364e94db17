use Rattle.std.proofs.Common.{rules}
use Rattle.claim_names.proofs.address.AddressOrd.cmp.Goals as goal

pub returns : goal.returns
returns c = search rules
