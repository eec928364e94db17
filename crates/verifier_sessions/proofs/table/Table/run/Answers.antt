use Rattle.std.proofs.Common.{take, ap, sym, refl, ◌∙◌, arith}
use Rattle.verifier_sessions.specs.Replies.{after}
use Rattle.verifier_sessions.specs.code.Owned.{event_in, events_in}
use Rattle.verifier_sessions.proofs.Runs.{after-push, replies-push, events-more, some_done, none_done, on_err}
use Rattle.verifier_sessions.proofs.table.Table.run.Goals as goal

pub returns-in_err-reserve-clause-out_of_memory : goal.returns-in_err-reserve-clause-out_of_memory
returns-in_err-reserve-clause-out_of_memory c = λ h s.
    on_err c.from_residual.result (none_done c.args.self.now h c.args.events.now s)

pub returns-in_err-reply-clause-out_of_memory : goal.returns-in_err-reply-clause-out_of_memory
returns-in_err-reply-clause-out_of_memory c = λ h s. on_err c.from_residual-in_err-reply.result
    (some_done c.apply.new.self h c.args.events.now c.deref-entry-items.result.now c.loop-entry.entry-index
    c.entry-item.result (sym c.events.view_is ∙ ap events_in (sym c.deref-entry-items.ensures.value))
    (omega arith) c.entry-item.is (rw c.event.ensures at c.in_err-reply.ensures.opening_only)
    (c.in_err-reply.ensures.out_of_memory
    (after h (events_in (take c.loop-entry.entry-index c.deref-entry-items.result.now)))
    (c.loop-entry.invariant.stands h s)))

-- There is room, so that no push fails.
pub returns-in_err-push-clause-out_of_memory : goal.returns-in_err-push-clause-out_of_memory
returns-in_err-push-clause-out_of_memory c = λ h s. absurd (omega (
  arith,
  c.in_err-push.ensures.full,
  c.loop-entry.invariant.count,
  c.loop-entry.invariant.room,
  c.loop-entry-test.true,
))

pub loop-entry-preserved : goal.loop-entry-preserved
loop-entry-preserved c = record {
  stands = λ h s. rw (
    events-more c.deref-entry-items.result.now c.loop-entry.entry-index c.entry-item.result
        (omega arith) c.entry-item.is,
    after-push h (events_in (take c.loop-entry.entry-index c.deref-entry-items.result.now))
        (c.entry-item.result.moment, event_in c.entry-item.result.owned),
    ← c.event.ensures,
  )
      (c.in_ok-reply.ensures.done
      (after h (events_in (take c.loop-entry.entry-index c.deref-entry-items.result.now)))
      (c.loop-entry.invariant.stands h s));
  replied = λ h s. rw (
    events-more c.deref-entry-items.result.now c.loop-entry.entry-index c.entry-item.result
        (omega arith) c.entry-item.is,
    replies-push h (events_in (take c.loop-entry.entry-index c.deref-entry-items.result.now))
        (c.entry-item.result.moment, event_in c.entry-item.result.owned),
    ← c.event.ensures,
    ← c.loop-entry.invariant.replied h s,
    ← c.in_ok-reply.ensures.reply
        (after h (events_in (take c.loop-entry.entry-index c.deref-entry-items.result.now)))
        (c.loop-entry.invariant.stands h s),
  )
      c.in_ok-push.ensures.items;
  count = rw (c.in_ok-push.ensures.len, c.loop-entry.invariant.count) refl;
  room = omega (arith, c.in_ok-push.ensures.capacity, c.loop-entry.invariant.room);
}
