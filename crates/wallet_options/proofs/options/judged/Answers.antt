use Rattle.options_files.specs.Contents.{slots_of}
use Rattle.program_steps.proofs.Stops.{runs_stop, runs_stopped}
use Rattle.request_object.specs.Endings.{early}
use Rattle.runs.specs.World.{World}
use Rattle.runs.proofs.Signing.{held_stays}
use Rattle.runs.proofs.Trees.{runs_then, runs_mapped}
use Rattle.wallet_options.specs.Refusals.{request_refused}
use Rattle.wallet_options.specs.code.AskedFor.{meant}
use Rattle.wallet_options.proofs.Replies.{runs_same}
use Rattle.wallet_options.proofs.options.judged.Goals as goal

pub returns-in-Ok : goal.returns-in-Ok
returns-in-Ok g c = λ listing w.
    let after : World = record w { device = g.K.KeyDevice.state c.read.new.device } in
    runs_then _ _ _ _ _ _ _ (runs_mapped request_refused _ _ _ _
    (rw c.as_str.ensures.value at c.in-Ok.ensures w))
    (runs_same listing (meant c.args.asked) c.asked.result.query.now c.in-Ok.request.query
    (slots_of c.args.files.now.credentials) (g.K.KeyDevice.state c.read.new.device).held
    (g.K.KeyDevice.state c.args.device.now).held c.args.now after _ c.asked.ensures.query
    (held_stays _ _ _ _ (c.in-Ok.ensures w)) (c.page_reply.ensures listing after))

pub returns-in-Err : goal.returns-in-Err
returns-in-Err g c = λ listing w.
    runs_stop _ _ _ _ _
    (runs_stopped request_refused _ _ _ (early c.in-Err.error) _
    (rw c.as_str.ensures.value at c.in-Err.ensures w) c.stop_by.ensures)
