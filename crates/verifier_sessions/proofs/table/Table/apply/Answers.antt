use Rattle.verifier_sessions.proofs.Keeping.{stands_for, keeps-post, keeps-look}
use Rattle.verifier_sessions.proofs.table.Table.apply.Goals as goal

-- src/table.rt:93:5
pub returns-in-Post-clause-done : goal.returns-in-Post-clause-done
returns-in-Post-clause-done c =
    λ h s. rw c.in-Post.is (stands_for _ _ (keeps-post c.args.self.now c.post.new.self h c.args.moment
    c.in-Post.id.now c.in-Post.yes s.keeps c.post.ensures.latest c.post.ensures.nonces
    c.post.ensures.openings c.post.ensures.ordered c.post.ensures.sessions))

-- src/table.rt:93:5
pub returns-in-Look-clause-done : goal.returns-in-Look-clause-done
returns-in-Look-clause-done c =
    λ h s. rw c.in-Look.is (stands_for _ _ (keeps-look c.args.self.now c.look.new.self h c.args.moment
    c.in-Look.id.now s.keeps c.look.ensures.table))
