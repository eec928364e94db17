use Rattle.std.proofs.Common.{refl, sym}
use Rattle.runs.specs.World.{World}
use Rattle.wallet_top.proofs.top.run.Goals as goal

pub returns-in_default : goal.returns-in_default
returns-in_default g c = λ device clock. rw (sym c.in_default.ensures) (refl, c.finish.ensures)

pub returns : goal.returns
returns g c = λ device clock.
    let before : World = record {
      store = g.S.Store.state c.args.store.now;
      device = device;
      clock = clock;
      sink = g.O.Sink.state c.args.out.now;
    } in
    let mid : World = record {
      store = g.S.Store.state c.perform-end.new.store;
      device = device;
      clock = clock;
      sink = g.O.Sink.state c.args.out.now;
    } in
    rw (sym c.in-Some.ensures)
    (_, mid, c.perform-end.ensures before, c.close.ensures.own, refl, c.close.ensures.closes)
