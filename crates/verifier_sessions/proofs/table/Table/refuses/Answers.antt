use Rattle.std.proofs.Common.{sym, refl, ◌∙◌}
use Rattle.verifier_sessions.proofs.Rules.{rule_is}
use Rattle.verifier_sessions.proofs.table.Table.refuses.Goals as goal

pub returns-then-is_full : goal.returns-then-is_full
returns-then-is_full c = λ h s. rw (
  rule_is c.args.self.now h c.args.moment c.args.id.now c.args.nonce.now s.keeps,
  sym (rw c.max-now.ensures at c.is_full.ensures) ∙ c.if-is_full.true,
) refl

pub returns-then-is_drawn : goal.returns-then-is_drawn
returns-then-is_drawn c = λ h s. rw (
  rule_is c.args.self.now h c.args.moment c.args.id.now c.args.nonce.now s.keeps,
  sym (rw c.max-now.ensures at c.is_full.ensures) ∙ c.if-is_full.false,
  sym (rw c.max-now.ensures at c.is_drawn.ensures) ∙ c.if-is_drawn.true,
) refl

pub returns-else-is_drawn : goal.returns-else-is_drawn
returns-else-is_drawn c = λ h s. rw (
  rule_is c.args.self.now h c.args.moment c.args.id.now c.args.nonce.now s.keeps,
  sym (rw c.max-now.ensures at c.is_full.ensures) ∙ c.if-is_full.false,
  sym (rw c.max-now.ensures at c.is_drawn.ensures) ∙ c.if-is_drawn.false,
) refl
