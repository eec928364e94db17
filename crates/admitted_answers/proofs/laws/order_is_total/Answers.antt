use Rattle.dcql_answers.proofs.Orders.{answer_order}
use Rattle.admitted_answers.proofs.laws.order_is_total.Goals as goal

pub returns : goal.returns
returns c = (answer_order.total, answer_order.same)
