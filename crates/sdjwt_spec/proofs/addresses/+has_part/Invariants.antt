use Rattle.std.proofs.Common.{length}
use Rattle.sdjwt_spec.proofs.addresses.+has_part.Given as goal

abbrev pub decreases-has_part : goal.decreases-has_part
decreases-has_part l = length l.address.now
