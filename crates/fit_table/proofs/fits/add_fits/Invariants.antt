use Rattle.fit_table.specs.Wallet.{slots_in}
use Rattle.fit_table.specs.code.Found.{IsFound}
use Rattle.fit_table.proofs.fits.add_fits.Given as goal

abbrev pub invariant-loop-set : goal.invariant-loop-set
invariant-loop-set g l =
    IsFound l.query (slots_in l.wallet) (g.K.KeyDevice.state l.device).held l.moment l.q l.c 0
    l.fn.found.items
    → IsFound l.query (slots_in l.wallet) (g.K.KeyDevice.state l.device).held l.moment l.q l.c l.set
    l.found.items
