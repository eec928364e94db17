-- What the table keeps of a session, and what a history says of it in the same words. Only the crate's own
-- proofs read this.
use Rattle.std.specs.Prelude.{ℕ, ◌+◌, Bool, true, false, ◌&&◌, List, Option, Some, None, nat_lt, min}
use Rattle.std.specs.Prelude.{if◌then◌else◌, not, find, String, string_bytes}
use Rattle.std.specs.Option.{option_map}
use Rattle.std.specs.Str.{bytes_eq}
use Rattle.std.specs.BTreeMap.{BTreeMap, get_by_text}
use Rattle.verifier_sessions.specs.declared.event.Stand.{Stand}
use Rattle.verifier_sessions.specs.declared.event.Stand.TheVariants.{Unknown}
use Rattle.verifier_sessions.specs.declared.session.Session.{Session}
use Rattle.verifier_sessions.specs.History.{Text, History, Told, told, is_kept, nonce_of}
use Rattle.verifier_sessions.specs.Stands.{
  events_of,
  last_opening,
  since_opening,
  answers,
  refusals,
  is_accepted,
  stand_with,
}

-- A session without its id: at most eight refusals, and accepted only below eight.
pub record Record : Type 0 where
  pub nonce : Text
  pub opened : ℕ
  pub refused : ℕ
  pub accepted : Bool

-- What a history says of an id.
abbrev pub record_with : Text → ℕ → ℕ → Bool → Record
record_with nonce opened refused accepted =
    record {
      nonce = nonce;
      opened = opened;
      refused = min 8 refused;
      accepted = nat_lt refused 8 && accepted;
    }

abbrev pub record_among : List Told → Option Told → Option Record
record_among ts None = None
record_among ts (Some t) = Some (record_with (nonce_of t.event) t.moment
    (refusals (answers t.moment (since_opening ts))) (is_accepted (answers t.moment (since_opening ts))))

abbrev pub record_of : History → Text → Option Record
record_of h id = record_among (events_of id h) (last_opening (events_of id h))

-- What a history says of a nonce: the moment of the last opening that brought it.
abbrev pub moment_in : Option Told → Option ℕ
moment_in None = None
moment_in (Some t) = Some t.moment

abbrev pub drawn : History → Text → Option ℕ
drawn h nonce = moment_in (find (λ t. t.opens && bytes_eq (nonce_of t.event) nonce) (told h))

-- What a table has at an id and at a nonce.
abbrev pub record_in : Session → Record
record_in s = record {
  nonce = string_bytes s.nonce;
  opened = s.opened;
  refused = s.refusals;
  accepted = s.accepted;
}

abbrev pub held : {A : Type 0} → BTreeMap (String A) Session → Text → Option Record
held sessions id = option_map record_in (get_by_text sessions id)

-- What of these is not forgotten at a moment.
abbrev pub kept_record : ℕ → Option Record → Option Record
kept_record now None = None
kept_record now (Some r) = if is_kept now r.opened then Some r else None

abbrev pub kept_moment : ℕ → Option ℕ → Option ℕ
kept_moment now None = None
kept_moment now (Some opened) = if is_kept now opened then Some opened else None

-- The stand and the nonce of a record.
abbrev pub record_stand : ℕ → Option Record → Stand
record_stand now None = Unknown
record_stand now (Some r) = stand_with now r.opened r.refused r.accepted

abbrev pub record_nonce : ℕ → Option Record → Option Text
record_nonce now None = None
record_nonce now (Some r) = if is_kept now r.opened then Some r.nonce else None

-- What an opening puts at an id.
abbrev pub fresh : Text → ℕ → Record
fresh nonce now = record { nonce = nonce; opened = now; refused = 0; accepted = false }

-- What a post makes of a record: where the session is pending, it is accepted, or the post counts.
abbrev pub is_pending : ℕ → Record → Bool
is_pending now r = nat_lt now (r.opened + 300) && nat_lt r.refused 8 && not r.accepted

abbrev pub posted : ℕ → Bool → Record → Record
posted now accepted r =
    if is_pending now r
    then (if accepted then record r { accepted = true } else record r { refused = r.refused + 1 })
    else r
