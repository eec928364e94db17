use Rattle.std.proofs.Common.{true, false, sym, ◌∙◌}
use Rattle.jws_envelope.specs.Jws.{envelope as said}
use Rattle.request_object.specs.Request.{asked_by}
use Rattle.runs.proofs.Questions.{runs_judge, runs_judge_fault}
use Rattle.runs.proofs.Trees.{runs_past, runs_broken}
use Rattle.request_object.proofs.Trees.{runs_no, runs_content}
use Rattle.request_object.proofs.read.read_message.Goals as goal

pub returns-in-Some : goal.returns-in-Some
returns-in-Some g c = λ w. runs_broken _ _ _ _ (sym c.client_rule.ensures.rule ∙ c.in-Some.is)

pub returns-in-Failed : goal.returns-in-Failed
returns-in-Failed g c = λ w. runs_past _ _ _ _ _ (sym c.in_default.ensures.rule)
    (runs_judge_fault _ _ _ _ _ _ _ w c.in-Failed.ensures)

pub returns-in-No : goal.returns-in-No
returns-in-No g c = λ w. runs_past _ _ _ _ _ (sym c.in_default.ensures.rule)
    (runs_judge _ _ _ _ _ _ _ false w _ c.in-No.ensures
    (runs_no (said c.args.jws.now).payload (asked_by (said c.args.jws.now).payload) _ _ c.rule.ensures))

pub returns-in-Yes : goal.returns-in-Yes
returns-in-Yes g c = λ w. runs_past _ _ _ _ _ (sym c.in_default.ensures.rule)
    (runs_judge _ _ _ _ _ _ _ true w _ c.in-Yes.ensures
    (runs_content _ (said c.args.jws.now).payload asked_by c.read_content.result _ c.payload.ensures
    c.read_content.ensures.unbroken c.read_content.ensures.asked c.read_content.ensures.refused))
