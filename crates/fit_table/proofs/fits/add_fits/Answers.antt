use Rattle.std.proofs.Common.{rules, ◌≡◌, ◌<◌, ◌≤◌, ◌+◌, ◌++◌, [], ◌∷◌, length, slice_get, Some, Err, sym, ap}
use Rattle.std.proofs.Common.{◌∙◌, subst, arith}
use Rattle.fit_table.specs.Credential.{meaning}
use Rattle.fit_table.specs.Slot.{slot_of}
use Rattle.fit_table.specs.Wallet.{slots_in}
use Rattle.fit_table.specs.Fit.{FitsUnder}
use Rattle.fit_table.specs.code.Found.{IsFound}
use Rattle.fit_table.specs.declared.wallet.Slot.{Slot}
use Rattle.fit_table.proofs.AtPlaces.{AreAt, unread, unusable, all_sets, one_fits, none_fits}
use Rattle.fit_table.proofs.fits.add_fits.Goals as goal
use Rattle.fit_table.proofs.fits.add_fits.Goals.{then-meets+in_ok-push, else-meets}

pub returns-in_default : goal.returns-in_default
returns-in_default g c =
    λ before.
    let stands : slice_get (slots_in c.args.wallet.now) c.args.c ≡ Some (Err c.in_default.field-0) =
    c.slot.ensures ∙ ap (λ (x : Slot). Some (slot_of x)) c.in_default.is in
    unread c.args.query.now (slots_in c.args.wallet.now) (g.K.KeyDevice.state c.args.device.now).held
    c.args.moment c.args.q c.args.c c.in_default.field-0 c.args.found.now.items stands before

pub loop-set-preserved : goal.loop-set-preserved
loop-set-preserved g c =
    λ before.
    let slots = slots_in c.args.wallet.now in
    let held = (g.K.KeyDevice.state c.args.device.now).held in
    let asked = c.at-asked.result.now in
    let read = meaning c.in-Read.credential in
    let set = c.loop-set.set in
    let here : AreAt c.args.query.now slots c.args.q c.args.c asked read = record {
      queried = c.at-asked.ensures.at;
      stands = c.slot.ensures ∙ ap (λ (x : Slot). Some (slot_of x)) c.in-Read.is;
    } in
    let within : set < length asked.sets =
    omega (arith, c.loop-set-test.true, c.set_count-set-end.ensures.count) in
    elim c.if-meets.branch [
      | then-meets+in_ok-push w ↦
          let fits : FitsUnder asked set held c.args.moment read = record {
            set = within;
            meets = c.meets.ensures.0 w.if-meets.true;
            usable = c.is_usable.ensures.0 c.if-is_usable.true;
          } in
          let grown : c.if-meets.found.items ≡ c.loop-set.found.items ++ (c.args.q, c.args.c, set) ∷ [] =
          search rules in
          subst (IsFound c.args.query.now slots held c.args.moment c.args.q c.args.c (set + 1)) (sym grown)
          (one_fits c.args.query.now slots held c.args.moment c.args.q c.args.c set asked read
          c.loop-set.found.items here fits (c.loop-set.invariant before))
      | else-meets w ↦
          let same : c.if-meets.found.items ≡ c.loop-set.found.items = search rules in
          subst (IsFound c.args.query.now slots held c.args.moment c.args.q c.args.c (set + 1)) (sym same)
          (none_fits c.args.query.now slots held c.args.moment c.args.q c.args.c set asked read
          c.loop-set.found.items here
          (λ met. let told = c.meets.ensures.1 met in absurd (cc (told, w.if-meets.false)))
          (c.loop-set.invariant before))
    ]

pub returns-after-loop-set : goal.returns-after-loop-set
returns-after-loop-set g c =
    λ before.
    let slots = slots_in c.args.wallet.now in
    let asked = c.at-asked.result.now in
    let read = meaning c.in-Read.credential in
    let here : AreAt c.args.query.now slots c.args.q c.args.c asked read = record {
      queried = c.at-asked.ensures.at;
      stands = c.slot.ensures ∙ ap (λ (x : Slot). Some (slot_of x)) c.in-Read.is;
    } in
    let all : length asked.sets ≤ c.loop-set.set =
    omega (arith, c.loop-set-test.false, c.set_count-set-end.ensures.count) in
    all_sets c.args.query.now slots (g.K.KeyDevice.state c.args.device.now).held c.args.moment c.args.q
    c.args.c c.loop-set.set asked read c.loop-set.found.items here all (c.loop-set.invariant before)

pub returns-else-is_usable : goal.returns-else-is_usable
returns-else-is_usable g c =
    λ before.
    let slots = slots_in c.args.wallet.now in
    let asked = c.at-asked.result.now in
    let read = meaning c.in-Read.credential in
    let here : AreAt c.args.query.now slots c.args.q c.args.c asked read = record {
      queried = c.at-asked.ensures.at;
      stands = c.slot.ensures ∙ ap (λ (x : Slot). Some (slot_of x)) c.in-Read.is;
    } in
    unusable c.args.query.now slots (g.K.KeyDevice.state c.args.device.now).held c.args.moment c.args.q
    c.args.c asked read c.args.found.now.items here
    (λ usable. let told = c.is_usable.ensures.1 usable in absurd (cc (told, c.if-is_usable.false)))
    before
