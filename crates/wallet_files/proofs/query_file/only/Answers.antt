-- A short answer, so that an edit of the number of queries is refused at once.
use Rattle.std.proofs.Common.{rules}
use Rattle.wallet_files.proofs.query_file.only.Goals as goal

pub returns-in-Ok : goal.returns-in-Ok
returns-in-Ok c = search rules
