use Rattle.std.proofs.Common.{rules}
use Rattle.claim_names.proofs.key_name.KeyNamePartialEq.eq.Goals as goal

pub returns : goal.returns
returns c = search rules
