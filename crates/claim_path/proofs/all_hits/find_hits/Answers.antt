use Rattle.std.proofs.Common.{rules}
use Rattle.claim_path.proofs.all_hits.find_hits.Goals as goal

pub returns-else-branch : goal.returns-else-branch
returns-else-branch g c = search rules
