-- What one event more changes of what a history says of an id and of a nonce.
use Rattle.std.proofs.Common.{◌≡◌, ℕ, refl, ap, ◌+◌, max, Bool, true, false, List, [], ◌∷◌, ◌++◌, Option}
use Rattle.std.proofs.Common.{Some, None, option_map, is_none, nat_lt, if◌then◌else◌, append-nil, inl, inr}
use Rattle.std.proofs.Common.{bytes_eq, true≢false, length, arith}
use Rattle.std.proofs.lemmas.Bool.{cases_Bool}
use Rattle.verifier_sessions.specs.History.{Text, History, Told, Open, Post, Look, latest, counted, nonce_of}
use Rattle.verifier_sessions.specs.History.{rule_of, told, kept, is_kept}
use Rattle.verifier_sessions.specs.Stands.{
  events_of,
  last_opening,
  answers,
  since_opening,
  answer_of,
  refusals,
  is_accepted,
}
use Rattle.verifier_sessions.specs.code.Records.{record_with, record_among, record_of, drawn, posted, fresh}
use Rattle.verifier_sessions.proofs.Posted.{posted_brings}

-- An event that opens nothing and brings nothing leaves the record.
nothing_brought : (t : Told) (ts : List Told) → t.opens ≡ false → answer_of t.event ≡ [] → (o : Option Told)
    → record_among (t ∷ ts) o ≡ record_among ts o
nothing_brought t ts e n None = refl
nothing_brought t ts e n (Some last) =
    rw e (ap (λ brought. Some (record_with (nonce_of last.event) last.moment (refusals brought)
    (is_accepted brought)))
    (rw n (same (answers last.moment (since_opening ts)) (nat_lt t.moment (last.moment + 300))))) where
      same : (brought : List Bool) (b : Bool) → brought ++ (if b then [] else []) ≡ brought
      same brought true = append-nil brought
      same brought false = append-nil brought

-- A post brings its answer.
post_brought : (now : ℕ) (id : Text) (a : Bool) (ts : List Told) (o : Option Told)
    → record_among (record { moment = now; event = Post id a; opens = false } ∷ ts) o
    ≡ option_map (posted now a) (record_among ts o)
post_brought now id a ts None = refl
post_brought now id a ts (Some last) =
    ap Some (posted_brings (nonce_of last.event) last.moment now (answers last.moment (since_opening ts)) a)

-- By the test whether the event is of the id.
pub record_of-look : (h : History) (m : ℕ) (i q : Text) → record_of ((m, Look i) ∷ h) q ≡ record_of h q
record_of-look h m i q = elim (cases_Bool (bytes_eq i q)) [
  | inl e ↦ rw e (nothing_brought (record {
    moment = counted m h;
    event = Look i;
    opens =
        false;
  }) (events_of q h) refl refl (last_opening (events_of q h)))
  | inr e ↦ rw e refl
]

pub record_of-post : (h : History) (m : ℕ) (i : Text) (a : Bool) (q : Text) → record_of ((m, Post i a) ∷ h) q
    ≡ (if bytes_eq i q then option_map (posted (max m (latest h)) a) (record_of h q) else record_of h q)
record_of-post h m i a q = elim (cases_Bool (bytes_eq i q)) [
  | inl e ↦ rw e (post_brought (counted m h) i a (events_of q h) (last_opening (events_of q h)))
  | inr e ↦ rw e refl
]

pub record_of-refused : (h : History) (m : ℕ) (i n q : Text) → is_none (rule_of h m i n) ≡ false
    → record_of ((m, Open i n) ∷ h) q ≡ record_of h q
record_of-refused h m i n q r = elim (cases_Bool (bytes_eq i q)) [
  | inl e ↦ rw e (go (is_none (rule_of h m i n)) r)
  | inr e ↦ rw e refl
] where
  go : (b : Bool) → b ≡ false
      → record_among (record {
        moment = counted m h;
        event = Open i n;
        opens =
            b;
      } ∷ events_of q h) (last_opening (record {
        moment = counted m h;
        event = Open i n;
        opens =
            b;
      } ∷ events_of q h))
      ≡ record_of h q
  go true f = absurd (true≢false f)
  go false f = nothing_brought (record {
    moment = counted m h;
    event = Open i n;
    opens =
        false;
  }) (events_of q h) refl refl (last_opening (events_of q h))

pub record_of-open : (h : History) (m : ℕ) (i n q : Text) → is_none (rule_of h m i n) ≡ true
    → record_of ((m, Open i n) ∷ h) q
    ≡ (if bytes_eq i q then Some (fresh n (max m (latest h))) else record_of h q)
record_of-open h m i n q r = elim (cases_Bool (bytes_eq i q)) [
  | inl e ↦ rw e (rw r refl)
  | inr e ↦ rw e refl
]

pub drawn-refused : (h : History) (m : ℕ) (i n q : Text) → is_none (rule_of h m i n) ≡ false
    → drawn ((m, Open i n) ∷ h) q ≡ drawn h q
drawn-refused h m i n q r = rw r refl

pub drawn-open : (h : History) (m : ℕ) (i n q : Text) → is_none (rule_of h m i n) ≡ true
    → drawn ((m, Open i n) ∷ h) q ≡ (if bytes_eq n q then Some (max m (latest h)) else drawn h q)
drawn-open h m i n q r = rw r (elim (cases_Bool (bytes_eq n q)) [ inl e ↦ rw e refl | inr e ↦ rw e refl ])

-- What is kept of the openings.
pub kept-refused : (h : History) (m : ℕ) (i n : Text) (now : ℕ) → is_none (rule_of h m i n) ≡ false
    → kept now (told ((m, Open i n) ∷ h)) ≡ kept now (told h)
kept-refused h m i n now r = rw r refl

pub kept-open : (h : History) (m : ℕ) (i n : Text) (now : ℕ) → is_none (rule_of h m i n) ≡ true
    → length (kept now (told ((m, Open i n) ∷ h)))
    ≡ (if is_kept now (max m (latest h)) then 1 else 0) + length (kept now (told h))
kept-open h m i n now r = rw r (elim (cases_Bool (is_kept now (max m (latest h)))) [
  | inl e ↦ rw e (omega arith)
  | inr e ↦ rw e (omega arith)
])
