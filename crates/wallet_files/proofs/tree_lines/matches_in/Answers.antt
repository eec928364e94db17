-- A short answer, so that an edit of the line that is refused is refused at once.
use Rattle.std.proofs.Common.{rules}
use Rattle.wallet_files.proofs.tree_lines.matches_in.Goals as goal

pub returns-in-None-clause-refused : goal.returns-in-None-clause-refused
returns-in-None-clause-refused c = search rules
