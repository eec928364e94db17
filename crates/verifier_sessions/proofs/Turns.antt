-- A session turns at most once.
use Rattle.std.proofs.Common.{◌≡◌, ℕ, refl, sym, ◌+◌, ◌≤◌, max, Bool, true, false, ◌&&◌, [], ◌∷◌, Option}
use Rattle.std.proofs.Common.{Some, None, option_map, is_none, nat_le, if◌then◌else◌, arith, bytes_eq}
use Rattle.std.proofs.Common.{leb-false, lt-ltb, true≢false, inl, inr}
use Rattle.std.proofs.lemmas.Bool.{cases_Bool}
use Rattle.std.proofs.lemmas.Slice.Eq.{bytes_eq-Decides}
use Rattle.verifier_sessions.specs.declared.event.Stand.TheVariants.{Unknown, Pending, Yes, Closed, Expired}
use Rattle.verifier_sessions.specs.declared.event.OpenRule.{OpenRule}
use Rattle.verifier_sessions.specs.declared.event.OpenRule.TheVariants as rule
use Rattle.verifier_sessions.specs.History.{Text, Open, Post, Look, History, latest, counted, rule_of}
use Rattle.verifier_sessions.specs.Stands.{stand, stand_with, events_of, last_opening}
use Rattle.verifier_sessions.specs.Replies.{post_reply, opening_reply, in_use}
use Rattle.verifier_sessions.specs.Laws.{TurnsOnce, turns, is_turned}
use Rattle.verifier_sessions.specs.code.Records.{Record, record_of, record_stand, posted, is_pending}
use Rattle.verifier_sessions.proofs.Steps.{record_of-look, record_of-post, record_of-refused, record_of-open}
use Rattle.verifier_sessions.proofs.Keeping.{record_stand-among}

-- At most so often did a session turn.
abbrev weight : Option Record → ℕ
weight None = 0
weight (Some r) = if r.accepted then 1 else 0

-- Only an accepted post on a pending session turns.
turned_tests : (a forgotten closed accepted expired : Bool) (r : ℕ)
    → is_turned (post_reply a (if forgotten then Unknown else
    (if closed then Closed else (if accepted then Yes r else
    (if expired then Expired r else Pending r))))) ≡ true
    → (a ≡ true) × (closed ≡ false) × (accepted ≡ false) × (expired ≡ false)
turned_tests a true c d x r e = absurd (true≢false (sym e))
turned_tests a false true d x r e = absurd (true≢false (sym e))
turned_tests a false false true x r e = absurd (true≢false (sym e))
turned_tests a false false false true r e = absurd (true≢false (sym e))
turned_tests true false false false false r e = (refl, refl, refl, refl)
turned_tests false false false false false r e = absurd (true≢false (sym e))

pending_from : (now : ℕ) (r : Record) → nat_le 8 r.refused ≡ false → r.accepted ≡ false
    → nat_le (r.opened + 300) now ≡ false → is_pending now r ≡ true
pending_from now r c d x = rw (
  d,
  lt-ltb r.refused 8 (leb-false 8 r.refused c),
  lt-ltb now (r.opened + 300)
      (leb-false (r.opened + 300) now x),
) refl

accepted-posted : (now : ℕ) (a : Bool) (r : Record)
    → (posted now a r).accepted ≡ (if is_pending now r then (if a then true else r.accepted) else r.accepted)
accepted-posted now a r = go (is_pending now r) a where
  go : (p a : Bool) → (if p then (if a then record r { accepted = true } else record r {
    refused =
        r.refused + 1;
  }) else r).accepted
      ≡ (if p then (if a then true else r.accepted) else r.accepted)
  go true true = refl
  go true false = refl
  go false a = refl

grows : (p a b : Bool) → (if b then 1 else 0) ≤ (if (if p then (if a then true else b) else b) then 1 else 0)
grows true true true = omega arith
grows true true false = omega arith
grows true false b = omega arith
grows false a b = omega arith

weight-posted : (now : ℕ) (a : Bool) (r : Record) → weight (Some r) ≤ weight (Some (posted now a r))
weight-posted now a r = rw (accepted-posted now a r) (grows (is_pending now r) a r.accepted)

post_turns : (now n : ℕ) (a : Bool) (o : Option Record) → n ≤ weight o
    → (if is_turned (post_reply a (record_stand now o)) then 1 else 0) + n ≤ weight
    (option_map (posted now a) o)
post_turns now n a None h = omega arith
post_turns now n a (Some r) h =
    elim (cases_Bool (is_turned (post_reply a (stand_with now r.opened r.refused r.accepted)))) [
      | inr e ↦ let w : weight (Some r) ≤ weight (Some (posted now a r)) =
          weight-posted now a r in rw e (omega (arith, h, w))
      | inl e ↦ let t : (a ≡ true) × (nat_le 8 r.refused ≡ false) × (r.accepted
          ≡ false) × (nat_le (r.opened + 300) now ≡ false)
          = turned_tests a (nat_le (r.opened + 3600) now) (nat_le 8 r.refused) r.accepted
          (nat_le (r.opened + 300) now) r.refused e in
          let zero_before : n ≤ 0 = rw t.2 at h in
          rw (e, accepted-posted now a r, pending_from now r t.1 t.2 t.3, t.0) (omega (arith, zero_before))
    ]

quiet : (b : Bool) (n w : ℕ) → n ≤ w → (if b && false then 0 else (if b && false then 1 else 0) + n) ≤ w
quiet true n w h = omega arith
quiet false n w h = omega arith

opening_quiet : (o : Option OpenRule) (t : Text) → is_turned (opening_reply o t) ≡ false
opening_quiet None t = refl
opening_quiet (Some rule.Full) t = refl
opening_quiet (Some rule.DrawInUse) t = refl

turns-bound : (h : History) (id : Text) → turns id h ≤ weight (record_of h id)
turns-bound [] id = omega arith
turns-bound ((m, Look i) ∷ h) id =
    rw (record_of-look h m i id) (quiet (bytes_eq i id) (turns id h) (weight (record_of h id))
    (turns-bound h id))
turns-bound ((m, Open i w) ∷ h) id =
    rw (opening_quiet (rule_of h m i w) (in_use h m i w))
    (go (is_none (rule_of h m i w)) refl (bytes_eq i id) refl (turns-bound h id)) where
      go : (o : Bool) → is_none (rule_of h m i w) ≡ o → (b : Bool) → bytes_eq i id ≡ b
          → turns id h ≤ weight (record_of h id)
          → (if b && o then 0 else (if b && false then 1 else 0) + turns id h) ≤ weight
          (record_of ((m, Open i w) ∷ h) id)
      go true e true f ih = omega arith
      go true e false f ih = rw (record_of-open h m i w id e, f) (omega arith)
      go false e b f ih =
          rw (record_of-refused h m i w id e) (quiet b (turns id h) (weight (record_of h id)) ih)
turns-bound ((m, Post i a) ∷ h) id =
    rw (record_of-post h m i a id) (go (bytes_eq i id) refl (turns-bound h id)) where
      go : (b : Bool) → bytes_eq i id ≡ b → turns id h ≤ weight (record_of h id)
          → (if b && false then 0 else (if b && is_turned (post_reply a (stand h m i)) then 1 else 0)
          + turns id
          h)
          ≤ weight (if b then option_map (posted (max m (latest h)) a) (record_of h id) else record_of h id)
      go false e ih = omega arith
      go true e ih = let same : i ≡ id = (bytes_eq-Decides i id).0 e in
          rw (same, ← record_stand-among (counted m h) (events_of id h) (last_opening (events_of id h)))
          (post_turns (counted m h) (turns id h) a (record_of h id) ih)

at_most : (o : Option Record) → weight o ≤ 1
at_most None = omega arith
at_most (Some r) = elim r.accepted as (λ b. (if b then 1 else 0) ≤ 1) [
  | true ↦ omega arith
  | false ↦
      omega arith
]

pub turns_once : TurnsOnce
turns_once h id = let b : turns id h ≤ weight (record_of h id) =
    turns-bound h id in let c : weight (record_of h id) ≤ 1 = at_most (record_of h id) in omega (arith, b, c)
