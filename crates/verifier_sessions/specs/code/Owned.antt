-- The event that an owned event means.
use Rattle.std.specs.Prelude.{ℕ, List, map, string_bytes}
use Rattle.verifier_sessions.specs.declared.events.Entry.{Entry}
use Rattle.verifier_sessions.specs.declared.events.Owned.{Owned}
use Rattle.verifier_sessions.specs.declared.events.Owned.TheVariants as owned
use Rattle.verifier_sessions.specs.History.{Event, Open, Post, Look}

abbrev pub event_in : Owned → Event
event_in (owned.Open id nonce) = Open (string_bytes id) (string_bytes nonce)
event_in (owned.Post id accepted) = Post (string_bytes id) accepted
event_in (owned.Look id) = Look (string_bytes id)

-- The moments with events that entries mean.
abbrev pub events_in : List Entry → List (ℕ × Event)
events_in entries = map (λ x. (x.moment, event_in x.owned)) entries
