use Rattle.std.proofs.Common.{sym, ◌∙◌}
use Rattle.verifier_sessions.proofs.Maps.{nonce_forgotten, nonce_stays}
use Rattle.verifier_sessions.proofs.table.forget_nonce.Goals as goal

pub returns-then-not-has_opening-clause-nonces : goal.returns-then-not-has_opening-clause-nonces
returns-then-not-has_opening-clause-nonces c =
    nonce_forgotten c.args.nonce.now c.args.now c.args.nonces.now c.remove.new.self c.remove.ensures.updates
    (sym c.has_opening.ensures ∙ c.if-not-has_opening.true)

pub returns-else-not-has_opening-clause-nonces : goal.returns-else-not-has_opening-clause-nonces
returns-else-not-has_opening-clause-nonces c =
    nonce_stays c.args.nonce.now c.args.now c.args.nonces.now
    (sym c.has_opening.ensures ∙ c.if-not-has_opening.false)
