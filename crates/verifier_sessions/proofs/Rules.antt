-- By what a table refuses an opening.
use Rattle.std.proofs.Common.{◌≡◌, ℕ, ap, ap₂, sym, ◌∙◌, max, Bool, ◌||◌, length, Option, Some, None, is_some}
use Rattle.std.proofs.Common.{is_none, true, false, nat_le, if◌then◌else◌, arith, refl, true≢false}
use Rattle.std.specs.BTreeMap.{get_by_text}
use Rattle.verifier_sessions.specs.declared.event.OpenRule.{OpenRule}
use Rattle.verifier_sessions.specs.declared.event.OpenRule.TheVariants as rule
use Rattle.verifier_sessions.specs.declared.table.Table.{Table}
use Rattle.verifier_sessions.specs.History.{Text, History, told, counted, kept, has_id, has_nonce, rule_of}
use Rattle.verifier_sessions.specs.Replies.{in_use}
use Rattle.verifier_sessions.specs.code.Records.{record_of, drawn, held, kept_record, kept_moment}
use Rattle.verifier_sessions.specs.code.Queue.{is_full}
use Rattle.verifier_sessions.specs.code.Keeps.{Keeps}
use Rattle.verifier_sessions.proofs.Later.{records_later, moments_later}
use Rattle.verifier_sessions.proofs.Queue.{full_is}
use Rattle.verifier_sessions.proofs.Told.{has_id-kept, has_nonce-kept}

abbrev pub rule_by : (full drawn : Bool) → Option OpenRule
rule_by full d = if full then Some rule.Full else (if d then Some rule.DrawInUse else None)

-- Whether the id, or the nonce, is in use.
pub has_id_is : (t : Table) (h : History) (m : ℕ) (id : Text) → Keeps t h
    → is_some (kept_record (max m t.latest) (held t.sessions id)) ≡ has_id id (kept (counted m h) (told h))
has_id_is t h m id k = ap is_some (records_later t.latest (max m t.latest) (held t.sessions id)
    (record_of h id) (omega arith) (k.sessions_are id))
    ∙ (ap (λ l. is_some (kept_record (max m l) (record_of h id))) k.latest_is
    ∙ sym (has_id-kept h (counted m h) id))

pub has_nonce_is : (t : Table) (h : History) (m : ℕ) (nonce : Text) → Keeps t h
    → is_some (kept_moment (max m t.latest) (get_by_text t.nonces nonce))
    ≡ has_nonce nonce (kept (counted m h) (told h))
has_nonce_is t h m nonce k = ap is_some (moments_later t.latest (max m t.latest)
    (get_by_text t.nonces nonce) (drawn h nonce) (omega arith) (k.nonces_are nonce))
    ∙ (ap (λ l. is_some (kept_moment (max m l) (drawn h nonce))) k.latest_is
    ∙ sym (has_nonce-kept h (counted m h) nonce))

pub in_use_is : (t : Table) (h : History) (m : ℕ) (id nonce : Text) → Keeps t h
    → (if is_some (kept_record (max m t.latest) (held t.sessions id)) then id else nonce)
    ≡ in_use h m id nonce
in_use_is t h m id nonce k = ap (λ b. if b then id else nonce) (has_id_is t h m id k)

-- The rule, by the three tests in their order.
pub rule_is : (t : Table) (h : History) (m : ℕ) (id nonce : Text) → Keeps t h
    → rule_of h m id nonce ≡ rule_by (is_full (max m t.latest) t.openings.items)
    (is_some (kept_record (max m t.latest) (held t.sessions id)) || is_some
    (kept_moment (max m t.latest) (get_by_text t.nonces nonce)))
rule_is t h m id nonce k = sym (
    ap (λ b. rule_by b (is_some (kept_record (max m t.latest) (held t.sessions id)) || is_some
    (kept_moment (max m t.latest) (get_by_text t.nonces nonce)))) full
    ∙ ap₂ (λ i n. rule_by (nat_le 1024 (length (kept (counted m h) (told h)))) (i || n))
    (has_id_is t h m id k) (has_nonce_is t h m nonce k)) where
      full : is_full (max m t.latest) t.openings.items ≡ nat_le 1024 (length (kept (counted m h) (told h)))
      full = full_is t.latest (max m t.latest) t.openings.items k.fits.ascend k.few
          ∙ (ap (nat_le 1024) (k.counts_are (max m t.latest) (omega arith))
          ∙ ap (λ l. nat_le 1024 (length (kept (max m l) (told h)))) k.latest_is)

-- An opening that is not refused finds room.
pub has_room : (t : Table) (h : History) (m : ℕ) (id nonce : Text) → Keeps t h
    → is_none (rule_of h m id nonce) ≡ true → is_full (max m t.latest) t.openings.items ≡ false
has_room t h m id nonce k r =
    go (is_full (max m t.latest) t.openings.items)
    (is_some (kept_record (max m t.latest) (held t.sessions id)) || is_some
    (kept_moment (max m t.latest) (get_by_text t.nonces nonce)))
    (sym (ap is_none (rule_is t h m id nonce k)) ∙ r) where
      go : (b d : Bool) → is_none (rule_by b d) ≡ true → b ≡ false
      go true d e = absurd (true≢false (sym e))
      go false d e = refl
