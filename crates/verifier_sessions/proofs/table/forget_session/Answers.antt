use Rattle.std.proofs.Common.{sym, ◌∙◌}
use Rattle.verifier_sessions.proofs.Maps.{session_forgotten, session_stays}
use Rattle.verifier_sessions.proofs.table.forget_session.Goals as goal

pub returns-then-not-has_session-clause-sessions : goal.returns-then-not-has_session-clause-sessions
returns-then-not-has_session-clause-sessions c =
    session_forgotten c.args.id.now c.args.now c.args.sessions.now c.remove.new.self c.remove.ensures.updates
    (sym c.has_session.ensures ∙ c.if-not-has_session.true)

pub returns-else-not-has_session-clause-sessions : goal.returns-else-not-has_session-clause-sessions
returns-else-not-has_session-clause-sessions c =
    session_stays c.args.id.now c.args.now c.args.sessions.now
    (sym c.has_session.ensures ∙ c.if-not-has_session.false)
