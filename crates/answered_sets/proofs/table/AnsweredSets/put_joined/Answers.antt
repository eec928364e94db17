use Rattle.std.proofs.Common.{◌<◌, length, arith}
use Rattle.dcql_query.specs.Query.{credential_set_at}
use Rattle.answered_sets.specs.Table.{is_in}
use Rattle.answered_sets.proofs.Unions.{join_more}
use Rattle.answered_sets.proofs.table.AnsweredSets.put_joined.Goals as goal

pub loop-option-preserved : goal.loop-option-preserved
loop-option-preserved c = λ a low.
    let i = c.loop-option.option in
    let options = (credential_set_at c.args.query.now c.args.set).options in
    let below : i < length options = omega arith in
    join_more (is_in c.loop-option.self a) (is_in c.put.new.self a) c.args.before a i c.option.result options
    below c.option.ensures.bits (c.put.ensures a low) _ (c.loop-option.invariant a low)
