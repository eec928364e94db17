use Rattle.std.proofs.Common.{◌≡◌, ◌<◌, ◌↔◌, List, arith, length, map, sym, subst, ap, ◌∙◌}
use Rattle.std.specs.List.{Contains}
use Rattle.dcql_answers.specs.declared.fits.Fit.{Fit}
use Rattle.dcql_answers.specs.Fits.{fit_of}
use Rattle.fit_table.specs.Wallet.{slots_in}
use Rattle.fit_table.specs.Fit.{IsFit}
use Rattle.fit_table.specs.code.Found.{IsFound}
use Rattle.fit_table.proofs.AtPlaces.{query_within}
use Rattle.fit_table.proofs.Found.{none_found, all_found}
use Rattle.fit_table.proofs.fits.fill.Goals as goal

pub loop-q-init : goal.loop-q-init
loop-q-init g c =
    let slots = slots_in c.args.wallet.now in
    let held = (g.K.KeyDevice.state c.args.device.now).held in
    subst (IsFound c.args.query.now slots held c.args.moment 0 0 0) (sym c.new-found.ensures.items)
    (none_found (IsFit c.args.query.now slots held c.args.moment))

pub returns : goal.returns
returns g c =
    λ f.
    let slots = slots_in c.args.wallet.now in
    let held = (g.K.KeyDevice.state c.args.device.now).held in
    let found = map fit_of c.loop-q.found.items in
    let given : c.in_ok-from_triples.field-0 ≡ found =
    c.in_ok-from_triples.ensures ∙ ap (map fit_of) c.deref.ensures.value in
    subst (λ (fits : List Fit). Contains fits f ↔ IsFit c.args.query.now slots held c.args.moment f)
    (sym given)
    (all_found (IsFit c.args.query.now slots held c.args.moment) c.loop-q.q found c.loop-q.invariant
    (λ one p.
    let within : one.query < length c.args.query.now.credentials =
    query_within c.args.query.now slots held c.args.moment one p in
    let below : one.query < c.loop-q.q =
    omega (arith, within, c.loop-q-test.false, c.len-q-end.ensures.count) in
    below)
    f)
