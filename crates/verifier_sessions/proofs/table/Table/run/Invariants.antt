-- The events before the place are done and answered, and there is room for every reply.
use Rattle.std.proofs.Common.{◌≡◌, ◌≤◌, length, take, vec_len, vec_capacity}
use Rattle.verifier_sessions.specs.History.{History}
use Rattle.verifier_sessions.specs.Replies.{after, replies}
use Rattle.verifier_sessions.specs.Table.{StandsFor}
use Rattle.verifier_sessions.specs.code.Owned.{events_in}
use Rattle.verifier_sessions.proofs.table.Table.run.Given as goal

abbrev pub invariant-loop-entry : goal.invariant-loop-entry
invariant-loop-entry l = record {
  stands : (h : History) → StandsFor l.fn.self h
      → StandsFor l.self (after h (events_in (take l.entry-index l.entry-items)));
  replied : (h : History) → StandsFor l.fn.self h
      → l.replies.items ≡ replies h (events_in (take l.entry-index l.entry-items));
  count : vec_len l.replies ≡ l.entry-index;
  room : length l.entry-items ≤ vec_capacity l.replies;
}
