use Rattle.fit_table.specs.Wallet.{slots_in}
use Rattle.fit_table.specs.code.Found.{IsFound}
use Rattle.fit_table.proofs.fits.fill.Given as goal

abbrev pub invariant-loop-q : goal.invariant-loop-q
invariant-loop-q g l =
    IsFound l.query (slots_in l.wallet) (g.K.KeyDevice.state l.device).held l.moment l.q 0 0 l.found.items
