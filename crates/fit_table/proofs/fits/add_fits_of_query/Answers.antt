use Rattle.std.proofs.Common.{◌<◌, arith, length, map}
use Rattle.dcql_answers.specs.Fits.{fit_of}
use Rattle.fit_table.specs.Wallet.{slots_in}
use Rattle.fit_table.specs.Fit.{IsFit}
use Rattle.fit_table.proofs.AtPlaces.{slot_within}
use Rattle.fit_table.proofs.Found.{next_query}
use Rattle.fit_table.proofs.fits.add_fits_of_query.Goals as goal

pub returns : goal.returns
returns g c =
    λ before.
    let slots = slots_in c.args.wallet.now in
    let held = (g.K.KeyDevice.state c.args.device.now).held in
    next_query (IsFit c.args.query.now slots held c.args.moment) c.args.q c.loop-c.c
    (map fit_of c.loop-c.found.items) (c.loop-c.invariant before)
    (λ f p a.
    let within : f.credential < length slots = slot_within c.args.query.now slots held c.args.moment f p in
    let below : f.credential < c.loop-c.c =
    omega (arith, within, c.loop-c-test.false, c.len-c-end.ensures.count) in
    below)
