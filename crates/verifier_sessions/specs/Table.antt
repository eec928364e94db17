-- When a table of sessions stands for a history.
--
-- The rule is this product's own.
use Rattle.std.specs.Prelude.{ℕ, ◌≡◌, ◌≤◌, ◌⊎◌, List, [], ◌∷◌, ◌++◌, Option, max}
use Rattle.std.specs.BTreeMap.{btree_map_len}
use Rattle.verifier_sessions.specs.declared.event.Event.{Event}
use Rattle.verifier_sessions.specs.declared.event.Event.TheVariants as given
use Rattle.verifier_sessions.specs.declared.event.Stand.{Stand}
use Rattle.verifier_sessions.specs.declared.table.Table.{Table}
use Rattle.verifier_sessions.specs.History as history
use Rattle.verifier_sessions.specs.History.{Text, History, latest}
use Rattle.verifier_sessions.specs.Stands.{stand, nonce}
use Rattle.verifier_sessions.specs.Replies.{after}
use Rattle.verifier_sessions.specs.code.Records.{held, record_stand, record_nonce}
use Rattle.verifier_sessions.specs.code.Keeps.{Keeps}

-- The stand and the nonce that a table has for an id at a moment.
abbrev pub stand_in : Table → ℕ → Text → Stand
stand_in t moment id = record_stand (max moment t.latest) (held t.sessions id)

abbrev pub nonce_in : Table → ℕ → Text → Option Text
nonce_in t moment id = record_nonce (max moment t.latest) (held t.sessions id)

-- How many sessions and how many nonces a table holds, forgotten ones among them.
abbrev pub session_count : Table → ℕ
session_count t = btree_map_len t.sessions

abbrev pub nonce_count : Table → ℕ
nonce_count t = btree_map_len t.nonces

-- A table stands for a history where its latest moment, and for every moment and id its stand and its nonce,
-- are the history's, and it holds at most 1,024 sessions and as many nonces. Besides, it keeps what it needs
-- to go on: for each id and nonce what is not forgotten.
pub record StandsFor (t : Table) (h : History) : Type 0 where
  pub latest_is : t.latest ≡ latest h
  pub stands_are : (moment : ℕ) (id : Text) → stand_in t moment id ≡ stand h moment id
  pub nonces_are : (moment : ℕ) (id : Text) → nonce_in t moment id ≡ nonce h moment id
  pub few_sessions : session_count t ≤ 1024
  pub few_nonces : nonce_count t ≤ 1024
  pub keeps : Keeps t h

-- The event of a history that an event of the code means.
abbrev pub event_of : Event → history.Event
event_of (given.Open id nonce) = history.Open id.now nonce.now
event_of (given.Post id accepted) = history.Post id.now accepted
event_of (given.Look id) = history.Look id.now

-- Whether an event is an opening.
abbrev pub IsOpening : history.Event → Type 0
IsOpening (history.Open id nonce) = Unit {0}
IsOpening (history.Post id accepted) = ⊥
IsOpening (history.Look id) = ⊥

-- The first of these events is an opening.
abbrev pub NextOpens : List (ℕ × history.Event) → Type 0
NextOpens [] = ⊥
NextOpens (e ∷ es) = IsOpening e.1

-- A table stands for a history with the first events of a list, up to an opening, or with none of them.
pub record StandsAfterSome (t : Table) (h : History) (events : List (ℕ × history.Event)) : Type 0 where
  pub done : List (ℕ × history.Event)
  pub rest : List (ℕ × history.Event)
  pub parts : events ≡ done ++ rest
  pub stands : StandsFor t (after h done)
  pub stopped : (done ≡ []) ⊎ NextOpens rest
