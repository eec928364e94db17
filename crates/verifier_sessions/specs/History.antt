-- The history of a verifier's sessions: the events that it has served, and which of them opened a session.
--
-- The rule is this product's own. OpenID4VP 1.0 asks in section 5.2 that the nonce of a request is fresh, and
-- section 14.1 is on responses that are replayed; it leaves to the verifier how long a session waits.
--
-- A history is a list of moments, in seconds, with events, the newest first.
use Rattle.std.specs.Prelude.{ℕ, ◌+◌, Bool, false, ◌&&◌, ◌||◌, List, [], ◌∷◌, length, Option, Some, None}
use Rattle.std.specs.Prelude.{is_none, nat_lt, nat_le, max, if◌then◌else◌, filter}
use Rattle.std.specs.List.{list_any}
use Rattle.std.specs.Str.{bytes_eq}
use Rattle.verifier_sessions.specs.declared.event.OpenRule.{OpenRule}
use Rattle.verifier_sessions.specs.declared.event.OpenRule.TheVariants.{Full, DrawInUse}

-- A text, by its bytes.
abbrev pub Text : Type 0
Text = List ℕ

-- An opening of a session under an id and with a nonce, a post of a response to an id that was accepted or
-- not, or a look.
pub data Event : Type 0 where
  Open : Text → Text → Event
  Post : Text → Bool → Event
  Look : Text → Event

abbrev pub History : Type 0
History = List (ℕ × Event)

-- The id of which an event is.
abbrev pub id_of : Event → Text
id_of (Open id nonce) = id
id_of (Post id accepted) = id
id_of (Look id) = id

-- The nonce that an event brings, of which only an opening has one.
abbrev pub nonce_of : Event → Text
nonce_of (Open id nonce) = nonce
nonce_of (Post id accepted) = []
nonce_of (Look id) = []

-- The greatest moment of a history, 0 where it is empty.
abbrev pub latest : History → ℕ
latest [] = 0
latest (e ∷ h) = max e.0 (latest h)

-- A moment counts as the greater of itself and the latest.
abbrev pub counted : ℕ → History → ℕ
counted moment h = max moment (latest h)

-- An event with the moment that it counts as, and whether it opens a session.
pub record Told : Type 0 where
  pub moment : ℕ
  pub event : Event
  pub opens : Bool

-- Whether something that was opened at a moment is not forgotten: for 3,600 seconds.
abbrev pub is_kept : ℕ → ℕ → Bool
is_kept now opened = nat_lt now (opened + 3600)

-- The openings that are not forgotten.
abbrev pub kept : ℕ → List Told → List Told
kept now ts = filter (λ t. t.opens && is_kept now t.moment) ts

-- Whether one of these events has the id, or the nonce.
abbrev pub has_id : Text → List Told → Bool
has_id id ts = list_any (λ t. bytes_eq (id_of t.event) id) ts

abbrev pub has_nonce : Text → List Told → Bool
has_nonce nonce ts = list_any (λ t. bytes_eq (nonce_of t.event) nonce) ts

-- Why an id and a nonce cannot be opened beside these openings: they are 1,024 or more, or else one of them
-- has the id or the nonce.
abbrev pub rule_beside : Text → Text → List Told → Option OpenRule
rule_beside id nonce openings =
    if nat_le 1024 (length openings) then Some Full
    else (if has_id id openings || has_nonce nonce openings then Some DrawInUse else None)

-- Whether an event opens a session beside these openings.
abbrev pub does_open : Event → List Told → Bool
does_open (Open id nonce) openings = is_none (rule_beside id nonce openings)
does_open (Post id accepted) openings = false
does_open (Look id) openings = false

-- What a history tells: each event with the moment that it counts as, and whether it opens, beside the
-- openings before it that are not forgotten at that moment.
abbrev pub told : History → List Told
told [] = []
told (e ∷ h) = record {
  moment = counted e.0 h;
  event = e.1;
  opens = does_open e.1 (kept (counted e.0 h) (told h));
} ∷ told h

-- Why an opening of an id with a nonce is refused after a history, at a moment.
abbrev pub rule_of : History → ℕ → Text → Text → Option OpenRule
rule_of h moment id nonce = rule_beside id nonce (kept (counted moment h) (told h))
