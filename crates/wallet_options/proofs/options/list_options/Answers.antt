use Rattle.std.proofs.lemmas.Result.{err_from_is_err_and}
use Rattle.program_steps.proofs.Stops.{runs_stop}
use Rattle.runs.proofs.Trees.{runs_then}
use Rattle.runs.specs.World.{World}
use Rattle.wallet_options.proofs.options.list_options.Goals as goal

pub returns-in_err-files : goal.returns-in_err-files
returns-in_err-files g c =
    let p = err_from_is_err_and c.from_residual.result c.from_residual.ensures.1 in
    rw (p.1, p.2) (λ listing w.
    runs_stop _ _ _ _ c.in_err-files.field-0.0 (c.in_err-files.ensures (record w {
      device = g.K.KeyDevice.state c.args.device.now;
      clock = g.C.Clock.state c.args.clock.now;
    })))

pub returns-in_err-now : goal.returns-in_err-now
returns-in_err-now g c =
    let p = err_from_is_err_and c.from_residual-in_err-now.result c.from_residual-in_err-now.ensures.1 in
    rw (p.1, p.2) (λ listing w.
    runs_then _ _ _ _ _ _ _ (c.in_ok-files.ensures (record w {
      device = g.K.KeyDevice.state c.args.device.now;
      clock = g.C.Clock.state c.args.clock.now;
    }))
    (runs_stop _ _ _ _ c.in_err-now.field-0.0 (c.in_err-now.ensures (record w {
      store = g.S.Store.state c.read_files.new.store;
      device = g.K.KeyDevice.state c.args.device.now;
    }))))

pub returns : goal.returns
returns g c = λ listing w.
    runs_then _ _ _ _ _ _ _ (c.in_ok-files.ensures (record w {
      device = g.K.KeyDevice.state c.args.device.now;
      clock = g.C.Clock.state c.args.clock.now;
    }))
    (runs_then _ _ _ _ _ _ _ (c.in_ok-now.ensures (record w {
      store = g.S.Store.state c.read_files.new.store;
      device = g.K.KeyDevice.state c.args.device.now;
    }))
    (c.judged.ensures listing (record w {
      store = g.S.Store.state c.read_files.new.store;
      clock = g.C.Clock.state c.moment.new.clock;
    })))
