use Rattle.std.proofs.Common.{ap, sym, is_none, ◌∙◌}
use Rattle.verifier_sessions.specs.declared.event.Reply.TheVariants.{DrawInUse}
use Rattle.std.proofs.lemmas.Result.{err_from_is_err_and}
use Rattle.verifier_sessions.proofs.Keeping.{stands_for, keeps-open, keeps-refused, keeps-unchanged}
use Rattle.verifier_sessions.proofs.Rules.{in_use_is}
use Rattle.std.proofs.Common.{Some}
use Rattle.verifier_sessions.proofs.table.Table.open.Goals as goal

-- src/table.rt:149:5
pub returns-in_ok-begin-in-None-clause-done : goal.returns-in_ok-begin-in-None-clause-done
returns-in_ok-begin-in-None-clause-done c =
    λ h s. stands_for _ _ (keeps-open c.args.self.now _ h c.args.moment c.args.id.now c.args.nonce.now
    s.keeps c.max-now.ensures (ap is_none (sym (c.refuses.ensures h s) ∙ c.in-None.is))
    (rw c.max-now.ensures at c.in_ok-begin-in-None.ensures.sessions)
    (rw c.max-now.ensures at c.in_ok-begin-in-None.ensures.nonces)
    (rw c.max-now.ensures at c.in_ok-begin-in-None.ensures.openings)
    (rw c.max-now.ensures at c.in_ok-begin-in-None.ensures.fits))

-- src/table.rt:149:5
pub returns-in-Some-Full-clause-done : goal.returns-in-Some-Full-clause-done
returns-in-Some-Full-clause-done c =
    λ h s. stands_for _ _ (keeps-refused c.args.self.now _ h c.args.moment c.args.id.now c.args.nonce.now
    s.keeps (ap (λ l. record c.args.self.now { latest = l }) c.max-now.ensures)
    (ap is_none (sym (c.refuses.ensures h s) ∙ c.in-Some-Full.is)))

-- src/table.rt:149:5
pub returns-in_ok-in_use-in-Some-DrawInUse-clause-reply :
    goal.returns-in_ok-in_use-in-Some-DrawInUse-clause-reply
returns-in_ok-in_use-in-Some-DrawInUse-clause-reply c = λ h s.
    rw (sym (c.refuses.ensures h s) ∙ (c.in-Some-DrawInUse.is ∙ ap Some c.in-Some-DrawInUse.field-0-is))
    (ap DrawInUse (c.in_ok-in_use-in-Some-DrawInUse.ensures ∙ (c.in_use.ensures ∙ (rw c.max-now.ensures
    (in_use_is c.args.self.now h c.args.moment c.args.id.now c.args.nonce.now s.keeps)))))

-- src/table.rt:149:5
pub returns-in_ok-in_use-in-Some-DrawInUse-clause-done :
    goal.returns-in_ok-in_use-in-Some-DrawInUse-clause-done
returns-in_ok-in_use-in-Some-DrawInUse-clause-done c =
    λ h s. stands_for _ _ (keeps-refused c.args.self.now _ h c.args.moment c.args.id.now c.args.nonce.now
    s.keeps (ap (λ l. record c.args.self.now { latest = l }) c.max-now.ensures)
    (ap is_none (sym (c.refuses.ensures h s) ∙ c.in-Some-DrawInUse.is)))

-- src/table.rt:200:17
pub returns-in_err-begin-in-None-clause-out_of_memory :
    goal.returns-in_err-begin-in-None-clause-out_of_memory
returns-in_err-begin-in-None-clause-out_of_memory c =
    let p = err_from_is_err_and c.from_residual.result c.from_residual.ensures.1 in
    rw p.1 (λ h s. stands_for _ _ (keeps-unchanged c.args.self.now c.begin.new.self h s.keeps
    c.begin.ensures.latest c.in_err-begin-in-None.ensures.out_of_memory
    c.in_err-begin-in-None.ensures.nonces_stay c.in_err-begin-in-None.ensures.openings_stay
    c.in_err-begin-in-None.ensures.ordered c.in_err-begin-in-None.ensures.nonces_ordered))
