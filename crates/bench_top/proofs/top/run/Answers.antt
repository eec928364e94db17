use Rattle.std.proofs.Common.{refl, sym}
use Rattle.runs.specs.World.{World}
use Rattle.bench_top.proofs.top.run.Goals as goal

pub returns-in_default : goal.returns-in_default
returns-in_default g c = λ clock. rw (sym c.in_default.ensures) (refl, c.finish.ensures)

pub returns : goal.returns
returns g c = λ clock.
    let before : World = record {
      store = g.S.Store.state c.args.store.now;
      device = g.K.KeyDevice.state c.args.device.now;
      clock = clock;
      sink = g.O.Sink.state c.args.out.now;
    } in
    let mid : World = record {
      store = g.S.Store.state c.issue_file-end.new.store;
      device = g.K.KeyDevice.state c.issue_file-end.new.device;
      clock = clock;
      sink = g.O.Sink.state c.args.out.now;
    } in
    rw (sym c.in-Some.ensures)
    (_, mid, c.issue_file-end.ensures before, c.close.ensures.own, refl, c.close.ensures.closes)
