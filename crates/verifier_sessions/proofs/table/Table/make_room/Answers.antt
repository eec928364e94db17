use Rattle.std.proofs.Common.{arith}
use Rattle.verifier_sessions.proofs.Queue.{oldest_gone}
use Rattle.verifier_sessions.proofs.table.Table.make_room.Goals as goal

pub returns-then-len-ge-SESSIONS-clause-fits : goal.returns-then-len-ge-SESSIONS-clause-fits
returns-then-len-ge-SESSIONS-clause-fits c = λ top later room f.
    c.forget_oldest.ensures.fits top later
    (oldest_gone c.args.now c.args.self.now.openings.items
    (omega (arith, c.if-len-ge-SESSIONS.true, c.len.ensures)) room) f
