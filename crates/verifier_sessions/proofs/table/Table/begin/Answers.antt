use Rattle.std.proofs.Common.{ap, refl, [], ◌∷◌, ◌++◌, ◌∙◌}
use Rattle.verifier_sessions.specs.declared.table.Opening.{Opening}
use Rattle.verifier_sessions.specs.code.Queue.{without_oldest}
use Rattle.verifier_sessions.specs.code.Records.{kept_record, kept_moment, fresh}
use Rattle.verifier_sessions.proofs.Maps.{session_put, put_is, put_back}
use Rattle.verifier_sessions.proofs.Queue.{adds, fits-put}
use Rattle.verifier_sessions.proofs.table.Table.begin.Goals as goal

pub returns-in-Ok-clause-sessions : goal.returns-in-Ok-clause-sessions
returns-in-Ok-clause-sessions c =
    λ q. c.make_room.ensures.sessions q ∙ ap (kept_record c.args.now)
    (session_put c.in_ok-own.own c.args.id.now c.args.nonce.now c.args.now _ c.args.self.now.sessions
    c.insert-2.new.self c.in_ok-own.ensures.ok
    (ap (λ x. fresh x c.args.now) c.in_ok-from_str.ensures.ok) c.in-Ok.ensures.updates q)

pub returns-in-Ok-clause-nonces : goal.returns-in-Ok-clause-nonces
returns-in-Ok-clause-nonces c = λ q. c.make_room.ensures.nonces q ∙ ap (kept_moment c.args.now)
    (put_is c.in_ok-key.key c.args.nonce.now c.args.now c.args.self.now.nonces c.insert.new.self
    c.in_ok-key.ensures.ok c.in_ok-before.ensures.updates q)

pub returns-in-Ok-clause-openings : goal.returns-in-Ok-clause-openings
returns-in-Ok-clause-openings c =
    let x : Opening = record {
      opened = c.args.now;
      id = c.in_ok-from_str-2.field-0;
      nonce =
          c.in_ok-from_str-3.field-0;
    } in
    adds c.args.now c.args.self.now.openings.items c.push_back_reserved.new.self.items x refl
    (c.push_back_reserved.ensures.items
    ∙ ap (λ l. l ++ x ∷ []) (c.make_room.ensures.openings ∙ ap without_oldest c.reserve_one.ensures.items))

pub returns-in-Ok-clause-fits : goal.returns-in-Ok-clause-fits
returns-in-Ok-clause-fits c = λ room le f.
    let x : Opening = record {
      opened = c.args.now;
      id = c.in_ok-from_str-2.field-0;
      nonce =
          c.in_ok-from_str-3.field-0;
    } in
    rw c.push_back_reserved.ensures.items (c.make_room.ensures.fits c.args.now (x ∷ [])
    (rw c.reserve_one.ensures.items room)
    (rw c.reserve_one.ensures.items
    (fits-put c.args.self.now.latest c.args.now c.args.self.now.openings.items x c.args.nonce.now
    c.args.self.now.sessions c.insert-2.new.self c.args.self.now.nonces c.insert.new.self le refl
    (λ q. rw c.in_ok-from_str-2.ensures.ok
    (session_put c.in_ok-own.own c.args.id.now c.args.nonce.now c.args.now _ c.args.self.now.sessions
    c.insert-2.new.self c.in_ok-own.ensures.ok
    (ap (λ x. fresh x c.args.now) c.in_ok-from_str.ensures.ok) c.in-Ok.ensures.updates q))
    (λ q. rw c.in_ok-from_str-3.ensures.ok
    (put_is c.in_ok-key.key c.args.nonce.now c.args.now c.args.self.now.nonces c.insert.new.self
    c.in_ok-key.ensures.ok c.in_ok-before.ensures.updates q))
    c.insert-2.ensures.ordered c.insert.ensures.ordered f)))

pub returns-in-Err-clause-nonces_stay : goal.returns-in-Err-clause-nonces_stay
returns-in-Err-clause-nonces_stay c =
    put_back c.in_ok-key.key c.args.nonce.now c.args.now c.in_ok-before.before
    c.args.self.now.nonces
    c.insert.new.self c.restore.new.self.nonces c.in_ok-key.ensures.ok c.in_ok-before.ensures.updates
    c.in_ok-before.ensures.old c.restore.ensures.nonces
