-- What holds of every history: a session turns at most once, sessions do not touch one another, and those
-- that are kept differ.
--
-- The laws are this product's own; OpenID4VP 1.0, section 14.1, is on responses that are replayed.
use Rattle.std.specs.Prelude.{
  ℕ,
  ◌≡◌,
  ◌≢◌,
  ◌+◌,
  ◌≤◌,
  ◌⊎◌,
  Bool,
  true,
  false,
  ◌&&◌,
  List,
  [],
  ◌∷◌,
  map,
  None,
  if◌then◌else◌,
}
use Rattle.std.specs.List.{IsDistinct}
use Rattle.std.specs.Str.{bytes_eq}
use Rattle.verifier_sessions.specs.declared.event.Reply.{Reply}
use Rattle.verifier_sessions.specs.declared.event.Reply.TheVariants.{
  Opened,
  Full,
  DrawInUse,
  Turned,
  Counted,
  Stands,
}
use Rattle.verifier_sessions.specs.History.{Text, Event, Open, History, told, counted, kept, id_of, does_open}
use Rattle.verifier_sessions.specs.History.{rule_of}
use Rattle.verifier_sessions.specs.Replies.{reply_of}

-- ---- a session turns at most once

abbrev pub is_turned : Reply → Bool
is_turned Opened = false
is_turned Full = false
is_turned (DrawInUse text) = false
is_turned Turned = true
is_turned Counted = false
is_turned (Stands stand) = false

abbrev pub opens_session : Text → History → ℕ × Event → Bool
opens_session id h e = bytes_eq (id_of e.1) id && does_open e.1 (kept (counted e.0 h) (told h))

-- How many events of an id were answered `Turned` after its last opening.
abbrev pub turns : Text → History → ℕ
turns id [] = 0
turns id (e ∷ h) =
    if opens_session id h e then 0
    else (if bytes_eq (id_of e.1) id && is_turned (reply_of h e) then 1 else 0) + turns id h

-- Wherever a history ends, an id turned at most once since its last opening.
abbrev pub TurnsOnce : Type 0
TurnsOnce = (h : History) (id : Text) → turns id h ≤ 1

-- ---- sessions do not touch one another

-- Two events are the same event of an id, or both of other ids.
abbrev pub AgreeOn : Text → Event → Event → Type 0
AgreeOn id e f = ((e ≡ f) × (id_of e ≡ id)) ⊎ ((id_of e ≢ id) × (id_of f ≢ id))

-- Two histories of equal length, with the same moments, agree on the events of an id.
abbrev pub Agree : Text → History → History → Type 0
Agree id [] [] = Unit {0}
Agree id [] (f ∷ k) = ⊥
Agree id (e ∷ h) [] = ⊥
Agree id (e ∷ h) (f ∷ k) = (e.0 ≡ f.0) × AgreeOn id e.1 f.1 × Agree id h k

-- No opening of an id is refused.
abbrev pub NoneRefused : Text → History → Type 0
NoneRefused id [] = Unit {0}
NoneRefused id (e ∷ h) =
    ((nonce : Text) → e.1 ≡ Open id nonce → rule_of h e.0 id nonce ≡ None) × NoneRefused id h

-- The replies to the events of an id, the newest first.
abbrev pub replies_to : Text → History → List Reply
replies_to id [] = []
replies_to id (e ∷ h) = if bytes_eq (id_of e.1) id then reply_of h e ∷ replies_to id h else replies_to id h

abbrev pub StandApart : Type 0
StandApart = (id : Text) (h k : History) → Agree id h k → NoneRefused id h → NoneRefused id k
    → replies_to id h ≡ replies_to id k

-- ---- the sessions that are kept differ in their ids, so that as many ids as openings are kept

abbrev pub KeptDiffer : Type 0
KeptDiffer = (h : History) (moment : ℕ)
    → IsDistinct bytes_eq (map (λ t. id_of t.event) (kept (counted moment h) (told h)))
