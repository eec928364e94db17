-- A short answer, so that an edit of what is left out is refused at once.
use Rattle.std.proofs.Common.{rules}
use Rattle.outside.proofs.arguments.after_name.Goals as goal

pub loop-word-init : goal.loop-word-init
loop-word-init c = search rules
