use Rattle.std.proofs.Common.{rules}
use Rattle.option_texts.proofs.answers.add_end.Goals as goal

pub returns : goal.returns
returns c = search rules
