-- How an id stands after a history: by the events of this id alone, from its last opening on.
--
-- The rule is this product's own; OpenID4VP 1.0 leaves to the verifier how often and how long it takes
-- responses.
use Rattle.std.specs.Prelude.{ℕ, ◌+◌, Bool, List, [], ◌∷◌, ◌++◌, Option, Some, None, nat_lt, nat_le}
use Rattle.std.specs.Prelude.{if◌then◌else◌, filter, find}
use Rattle.std.specs.List.{list_any}
use Rattle.std.specs.Str.{bytes_eq}
use Rattle.verifier_sessions.specs.declared.event.Stand.{Stand}
use Rattle.verifier_sessions.specs.declared.event.Stand.TheVariants.{Unknown, Pending, Yes, Closed, Expired}
use Rattle.verifier_sessions.specs.History.{
  Text,
  Event,
  Open,
  Post,
  Look,
  History,
  Told,
  told,
  counted,
  is_kept,
  id_of,
  nonce_of,
}

-- The events of an id.
abbrev pub events_of : Text → History → List Told
events_of id h = filter (λ t. bytes_eq (id_of t.event) id) (told h)

-- The last of these events that opens a session.
abbrev pub last_opening : List Told → Option Told
last_opening ts = find (λ t. t.opens) ts

-- The events after it.
abbrev pub since_opening : List Told → List Told
since_opening [] = []
since_opening (t ∷ ts) = if t.opens then [] else t ∷ since_opening ts

-- What a post brings to a session: whether it was accepted. Another event brings nothing.
abbrev pub answer_of : Event → List Bool
answer_of (Open id nonce) = []
answer_of (Post id accepted) = accepted ∷ []
answer_of (Look id) = []

-- What the posts in the 300 seconds after an opening bring, in their order.
abbrev pub answers : ℕ → List Told → List Bool
answers opened [] = []
answers opened (t ∷ ts) = answers opened ts ++
    (if nat_lt t.moment (opened + 300) then answer_of t.event else [])

-- How many posts were refused before the first that was accepted, and whether there is such a one.
abbrev pub refusals : List Bool → ℕ
refusals [] = 0
refusals (accepted ∷ later) = if accepted then 0 else 1 + refusals later

abbrev pub is_accepted : List Bool → Bool
is_accepted brought = list_any (λ accepted. accepted) brought

-- How a session stands that was opened at a moment and to which posts brought these answers. The first case
-- that applies counts: forgotten, eight refusals, accepted, out of time.
abbrev pub stand_with : ℕ → ℕ → ℕ → Bool → Stand
stand_with now opened refused accepted =
    if nat_le (opened + 3600) now then Unknown
    else (if nat_le 8 refused then Closed
    else (if accepted then Yes refused
    else (if nat_le (opened + 300) now then Expired refused
    else Pending refused)))

abbrev pub stand_among : ℕ → List Told → Option Told → Stand
stand_among now ts None = Unknown
stand_among now ts (Some t) =
    stand_with now t.moment (refusals (answers t.moment (since_opening ts)))
    (is_accepted (answers t.moment (since_opening ts)))

-- How an id stands after a history, at a moment.
abbrev pub stand : History → ℕ → Text → Stand
stand h moment id = stand_among (counted moment h) (events_of id h) (last_opening (events_of id h))

-- The nonce of an id: that of its last opening, and none where the id is unknown.
abbrev pub nonce_among : ℕ → Option Told → Option Text
nonce_among now None = None
nonce_among now (Some t) = if is_kept now t.moment then Some (nonce_of t.event) else None

abbrev pub nonce : History → ℕ → Text → Option Text
nonce h moment id = nonce_among (counted moment h) (last_opening (events_of id h))
