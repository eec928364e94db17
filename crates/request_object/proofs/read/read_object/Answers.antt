use Rattle.std.proofs.Common.{option_map}
use Rattle.jws_envelope.specs.Jws.{envelope as said}
use Rattle.runs.proofs.Trees.{runs_as}
use Rattle.request_object.proofs.Trees.{same_message, runs_no_message}
use Rattle.request_object.proofs.read.read_object.Goals as goal

pub returns-in-Ok : goal.returns-in-Ok
returns-in-Ok g c = λ w. runs_as _ _ _ _ _
    (same_message c.args.clients.now (option_map (λ s. s.now) c.args.outer) c.args.object.now
    (said c.in-Ok.jws) c.in-Ok.ensures.read) (c.read_message.ensures w)

pub returns-in-Err : goal.returns-in-Err
returns-in-Err g c = λ w. rw c.message_refusal.ensures
    (runs_no_message c.args.clients.now (option_map (λ s. s.now) c.args.outer) c.args.object.now
    c.in-Err.error _ c.in-Err.ensures.refused)
