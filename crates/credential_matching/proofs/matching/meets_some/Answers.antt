use Rattle.std.proofs.Common.{◌<◌, length, arith, refl}
use Rattle.credential_matching.specs.Meets.{MeetsSome}
use Rattle.credential_matching.proofs.matching.meets_some.Goals as goal

pub returns-then-meets : goal.returns-then-meets
returns-then-meets g c =
    λ credential told.
    let below : c.loop-set.set < length c.args.query.now.sets =
    omega (arith, c.loop-set-test.true, c.set_count-set-end.ensures.count) in
    let met : MeetsSome c.args.query.now credential =
    (c.loop-set.set, below, (c.meets.ensures credential told).0 c.if-meets.true) in
    (λ _. met, λ _. refl)
