use Rattle.admitted_answers.proofs.Made.{one_more}
use Rattle.admitted_answers.proofs.make.least_answer.Goals as goal

pub loop-query-preserved : goal.loop-query-preserved
loop-query-preserved c =
    one_more (λ ps. ps.items) c.args.fits.now c.args.count c.loop-query.query c.loop-query.rest
    c.loop-query.lists.items c.push.new.self.items c.in_ok-least_list.field-0 c.loop-query-test.true
    c.in_ok-push.ensures.items c.in_ok-least_list.ensures _ c.loop-query.invariant
