use Rattle.fit_table.specs.Wallet.{slots_in}
use Rattle.fit_table.specs.code.Found.{IsFound}
use Rattle.fit_table.proofs.fits.add_fits_of_query.Given as goal

abbrev pub invariant-loop-c : goal.invariant-loop-c
invariant-loop-c g l =
    IsFound l.query (slots_in l.wallet) (g.K.KeyDevice.state l.device).held l.moment l.q 0 0 l.fn.found.items
    → IsFound l.query (slots_in l.wallet) (g.K.KeyDevice.state l.device).held l.moment l.q l.c 0
    l.found.items
