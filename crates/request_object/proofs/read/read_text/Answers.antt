use Rattle.runs.proofs.Trees.{runs_as}
use Rattle.request_object.proofs.Trees.{same_linked, same_plain, runs_no_link}
use Rattle.request_object.proofs.read.read_text.Goals as goal

pub returns-in-Some : goal.returns-in-Some
returns-in-Some g c = λ w. runs_as _ _ _ _ _
    (same_linked c.args.clients.now c.args.text.now c.in-Ok.found c.in-Some.link c.client.result.now
    c.object.result.now c.in-Some.is c.in-Ok.ensures.read c.client.ensures c.object.ensures)
    (c.read_object.ensures w)

pub returns : goal.returns
returns g c = λ w. runs_as _ _ _ _ _
    (same_plain c.args.clients.now c.args.text.now c.in-Ok.found c.in-None.is c.in-Ok.ensures.read)
    (c.read_object-in-None.ensures w)

pub returns-in-Err : goal.returns-in-Err
returns-in-Err g c = λ w. rw c.link_refusal.ensures
    (runs_no_link c.args.clients.now c.args.text.now c.in-Err.error _ c.in-Err.ensures.refused)
