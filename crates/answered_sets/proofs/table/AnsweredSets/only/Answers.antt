use Rattle.answered_sets.proofs.Unions.{only_in}
use Rattle.answered_sets.proofs.table.AnsweredSets.only.Goals as goal

pub returns : goal.returns
returns c = λ a low.
    only_in c.none-sets.result c.put.new.self c.args.set a c.none-sets.ensures (c.put.ensures a low)
