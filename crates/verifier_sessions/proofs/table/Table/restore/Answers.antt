use Rattle.std.proofs.Common.{None}
use Rattle.std.proofs.lemmas.Map.Text.{btree_map_updates_text}
use Rattle.std.proofs.Common.{Some}
use Rattle.verifier_sessions.proofs.table.Table.restore.Goals as goal

-- src/table.rt:200:5
pub returns-in-None-clause-nonces : goal.returns-in-None-clause-nonces
returns-in-None-clause-nonces c = λ _ q. rw c.in-None.is
    (btree_map_updates_text c.args.nonce.now c.args.self.now.nonces c.remove.new.self None
    c.remove.ensures.updates q)

-- src/table.rt:200:5
pub returns-in-Some-get_mut-clause-nonces : goal.returns-in-Some-get_mut-clause-nonces
returns-in-Some-get_mut-clause-nonces c = λ some q. rw c.in-Some.is
    (btree_map_updates_text c.args.nonce.now c.args.self.now.nonces
    (c.get_mut.follows.lender c.in-Some.opened) (Some c.in-Some.opened)
    ((c.get_mut.follows.holds c.in-Some.opened).3 some) q)
