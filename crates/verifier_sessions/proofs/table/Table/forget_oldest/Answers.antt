use Rattle.std.proofs.Common.{◌++◌}
use Rattle.verifier_sessions.proofs.Queue.{fits-forgotten}
use Rattle.verifier_sessions.proofs.table.Table.forget_oldest.Goals as goal

pub returns-in-Some-clause-fits : goal.returns-in-Some-clause-fits
returns-in-Some-clause-fits c = λ top later gone f.
    fits-forgotten top c.args.now c.in-Some.oldest (c.pop_front.new.self.items ++ later)
    c.args.self.now.sessions c.forget_session.new.sessions c.args.self.now.nonces c.forget_nonce.new.nonces
    (rw c.in-Some.ensures.items at gone)
    (rw c.as_str.ensures.value at c.forget_session.ensures.sessions)
    (rw c.as_str-in-Some.ensures.value at c.forget_nonce.ensures.nonces)
    c.forget_session.ensures.ordered c.forget_nonce.ensures.ordered
    (rw c.in-Some.ensures.items at f)
