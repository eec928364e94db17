use Rattle.std.proofs.Common.{sym}
use Rattle.verifier_sessions.proofs.Maps.{posted_at}
use Rattle.std.proofs.Common.{rules}
use Rattle.verifier_sessions.proofs.table.Table.post.Goals as goal

-- src/table.rt:133:5
pub returns-in-Some-clause-sessions : goal.returns-in-Some-clause-sessions
returns-in-Some-clause-sessions c = rw (← c.max-now.ensures)
    (posted_at c.args.id.now c.max-now.result c.args.accepted c.in-Some.session.now c.post.new.self
    c.args.self.now.sessions
    (c.get_mut.follows.lender c.post.new.self) ((c.get_mut.follows.holds c.post.new.self).3 (search rules))
    (sym c.in-Some.ensures.value) c.post.ensures.session)
