use Rattle.answered_sets.proofs.Unions.{put_into}
use Rattle.answered_sets.proofs.table.AnsweredSets.put.Goals as goal

pub returns : goal.returns
returns c = λ a low.
    put_into c.self.inside.words c.args.self.now c.args.set a c.ranges.set.fits c.self.told c.self.view_is
