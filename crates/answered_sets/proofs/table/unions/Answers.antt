use Rattle.std.proofs.Common.{◌<◌, ◌≤◌, length, arith}
use Rattle.dcql_query.specs.Query.{sets_in, no_options}
use Rattle.answered_sets.proofs.Unions.{reach_step, reach_done}
use Rattle.answered_sets.proofs.table.unions.Goals as goal

pub loop-set-preserved : goal.loop-set-preserved
loop-set-preserved c = λ a low.
    let sets = sets_in c.args.query.now in
    let below : c.loop-set.set < length sets = omega arith in
    reach_step c.loop-set.reached c.joined-reached.result sets c.loop-set.set no_options below
    c.joined-reached.ensures a low _ (c.loop-set.invariant a low)

pub returns : goal.returns
returns c = λ a low.
    let sets = sets_in c.args.query.now in
    let past : length sets ≤ c.loop-set.set = omega arith in
    reach_done c.loop-set.reached sets c.loop-set.set past a low (c.loop-set.invariant a low)
