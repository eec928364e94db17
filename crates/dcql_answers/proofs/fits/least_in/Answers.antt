use Rattle.std.proofs.Common.{sym, ap, ◌∙◌}
use Rattle.dcql_answers.specs.code.Places.{pick_for}
use Rattle.dcql_answers.proofs.Places.{found, looked_up}
use Rattle.dcql_answers.proofs.fits.least_in.Goals as goal

pub returns : goal.returns
returns c =
    let fits = c.args.fits.now in
    c.pick_at.ensures
    ∙ ap (pick_for c.args.query)
    (looked_up c.get.result fits c.place_from.result c.get.ensures.lookup.0 c.get.ensures.lookup.1)
    ∙ sym (found fits c.requires c.args.query c.args.credential c.args.set c.place_from.result
    c.place_from.ensures)
