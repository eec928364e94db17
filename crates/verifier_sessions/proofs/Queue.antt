-- The queue of openings: when it is full, how many are kept, and that the maps stay tied to it.
use Rattle.std.proofs.Common.{◌≡◌, ℕ, refl, ap, sym, ◌∙◌, ◌+◌, ◌≤◌, ◌<◌, Bool, true, false, ◌&&◌, List}
use Rattle.std.proofs.Common.{[], ◌∷◌, ◌++◌, length, Option, Some, None, option_map, is_some, nat_le}
use Rattle.std.proofs.Common.{if◌then◌else◌, arith, ltb-true, lt-ltb, leb-false, inl, inr, bytes_eq, subst}
use Rattle.std.proofs.Common.{String, string_cmp, true≢false}
use Rattle.std.specs.BTreeMap.{BTreeMap, get_by_text, IsOrdered}
use Rattle.std.proofs.lemmas.Bool.{cases_Bool, lt-leb, le-leb}
use Rattle.std.proofs.lemmas.List.{length_push}
use Rattle.std.proofs.lemmas.Option.{same_Some}
use Rattle.std.proofs.Math.Bool.{and-true, and-false}
use Rattle.std.proofs.lemmas.Slice.Eq.{bytes_eq-Decides}
use Rattle.verifier_sessions.specs.declared.session.Session.{Session}
use Rattle.verifier_sessions.specs.declared.table.Opening.{Opening}
use Rattle.verifier_sessions.specs.History.{Text, is_kept}
use Rattle.verifier_sessions.specs.code.Records.{Record, held, kept_record, kept_moment, fresh}
use Rattle.verifier_sessions.specs.code.Queue.{is_full, is_oldest_kept, without_oldest, kept_count, Ascend}
use Rattle.verifier_sessions.specs.code.Queue.{id_text}
use Rattle.verifier_sessions.specs.code.Queue.{nonce_text, IsQueued, AreQueued, moment_at, FitsQueue, Adds}
use Rattle.verifier_sessions.proofs.Later.{forgotten_after}

-- ---- the moments ascend

ascend-later : (top now : ℕ) (os : List Opening) → top ≤ now → Ascend top os → Ascend now os
ascend-later top now [] h a = tt
ascend-later top now (o ∷ []) h a = let b : o.opened ≤ top = a in omega arith
ascend-later top now (o ∷ p ∷ os) h a = (a.0, ascend-later top now (p ∷ os) h a.1)

ascend-push : (top : ℕ) (os : List Opening) (x : Opening) → top ≤ x.opened → Ascend top os
    → Ascend x.opened (os ++ x ∷ [])
ascend-push top [] x h a = omega arith
ascend-push top (o ∷ []) x h a = (let b : o.opened ≤ top = a in omega arith, omega arith)
ascend-push top (o ∷ p ∷ os) x h a = (a.0, ascend-push top (p ∷ os) x h a.1)

ascend-rest : (top : ℕ) (o : Opening) (os : List Opening) → Ascend top (o ∷ os) → Ascend top os
ascend-rest top o [] a = tt
ascend-rest top o (p ∷ os) a = a.1

-- ---- how many are kept

kept_from : (now o p : ℕ) → o ≤ p → is_kept now o ≡ true → is_kept now p ≡ true
kept_from now o p h e =
    let k : now < o + 3600 = ltb-true now (o + 3600) e in lt-ltb now (p + 3600) (omega arith)

-- Where the oldest is kept, all are.
all_kept : (top now : ℕ) (o : Opening) (os : List Opening) → Ascend top (o ∷ os) → is_kept now o.opened ≡ true
    → kept_count now (o ∷ os) ≡ length (o ∷ os)
all_kept top now o [] a e = rw e refl
all_kept top now o (p ∷ os) a e =
    let rest : kept_count now (p ∷ os) ≡ length (p ∷ os) =
    all_kept top now p os a.1 (kept_from now o.opened p.opened a.0 e) in
    rw e (omega arith)

kept_count-le : (now : ℕ) (os : List Opening) → kept_count now os ≤ length os
kept_count-le now [] = omega arith
kept_count-le now (o ∷ os) = go (is_kept now o.opened) (kept_count-le now os) where
  go : (b : Bool) → kept_count now os ≤ length os
      → (if b then 1 else 0) + kept_count now os ≤ length (o ∷ os)
  go true h = omega arith
  go false h = omega arith

count-push : (n : ℕ) (os : List Opening) (x : Opening) → kept_count n (os ++ x ∷ [])
    ≡ (if is_kept n x.opened then 1 else 0) + kept_count n os
count-push n [] x = refl
count-push n (o ∷ os) x = let rest : kept_count n (os ++ x ∷ [])
    ≡ (if is_kept n x.opened then 1 else 0) + kept_count n os = count-push n os x in omega arith

-- The queue is full exactly where 1,024 are kept.
pub full_is : (top now : ℕ) (os : List Opening) → Ascend top os → length os ≤ 1024
    → is_full now os ≡ nat_le 1024 (kept_count now os)
full_is top now [] a l = refl
full_is top now (o ∷ os) a l = elim (cases_Bool (is_kept now o.opened)) [
  | inl e ↦ ap (λ b. nat_le 1024 (length (o ∷ os)) && b) e
      ∙ (and-true (nat_le 1024 (length (o ∷ os)))
      ∙ sym (ap (nat_le 1024) (all_kept top now o os a e)))
  | inr e ↦ ap (λ b. nat_le 1024 (length (o ∷ os)) && b) e
      ∙ (and-false (nat_le 1024 (length (o ∷ os)))
      ∙ sym (lt-leb 1024 (kept_count now (o ∷ os))
      (let rest : kept_count now os ≤ length os = kept_count-le now os in rw e (omega arith))))
]

-- Where a queue of 1,024 is not full, the oldest is forgotten.
pub oldest_gone : (now : ℕ) (os : List Opening) → 1024 ≤ length os → is_full now os ≡ false
    → is_oldest_kept now os ≡ false
oldest_gone now os long room =
    sym (ap (λ b. b && is_oldest_kept now os) (le-leb 1024 (length os) long)) ∙ room

-- An opening was added.
pub adds : (now : ℕ) (os ns : List Opening) (x : Opening) → x.opened ≡ now
    → ns ≡ without_oldest os ++ x ∷ [] → Adds now os ns
adds now os ns x at is full few = rw is (go os full few) where
  go : (os : List Opening) → is_full now os ≡ false → length os ≤ 1024
      → (length (without_oldest os ++ x ∷ []) ≤ 1024) × ((n : ℕ) → now ≤ n
      → kept_count n (without_oldest os ++ x ∷ []) ≡ (if is_kept n now then 1 else 0) + kept_count n os)
  go [] full few = (omega arith, λ n le. rw at refl)
  go (o ∷ os) full few = elim (cases_Bool (nat_le 1024 (length (o ∷ os)))) [
    | inl e ↦ let gone : is_kept now o.opened ≡ false =
        sym (ap (λ b. b && is_kept now o.opened) e) ∙ full in
        let long : length (os ++ x ∷ []) ≡ length os + 1 = length_push os x in
        let pushed : (n : ℕ) → kept_count n (os ++ x ∷ []) ≡ (if is_kept n x.opened then 1 else 0)
        + kept_count n os = λ n. count-push n os x in
        rw e (
          omega arith,
          λ n le. rw (forgotten_after now n o.opened le gone, ← at) (let p = pushed n in
              omega arith),
        )
    | inr e ↦ let short : length (o ∷ os) < 1024 = leb-false 1024 (length (o ∷ os)) e in
        let long : length (o ∷ os ++ x ∷ []) ≡ length (o ∷ os) + 1 = length_push (o ∷ os) x in
        rw e (omega arith, λ n le. rw (← at) (count-push n (o ∷ os) x))
  ]

-- ---- the maps are tied to the queue

queued-more : (text : Opening → Text) (os : List Opening) (x : Opening) (q : Text) (m : ℕ)
    → IsQueued text os q m → IsQueued text (os ++ x ∷ []) q m
queued-more text [] x q m i = absurd i
queued-more text (o ∷ os) x q m i = elim i [ inl s ↦ inl s | inr r ↦ inr (queued-more text os x q m r) ]

queued-last : (text : Opening → Text) (os : List Opening) (x : Opening) (q : Text) (m : ℕ)
    → text x ≡ q → x.opened ≡ m → IsQueued text (os ++ x ∷ []) q m
queued-last text [] x q m s e = inl (s, e)
queued-last text (o ∷ os) x q m s e = inr (queued-last text os x q m s e)

queued-put : (text : Opening → Text) (os : List Opening) (x : Opening) (f g : Text → Option ℕ)
    → ((q : Text) → g q ≡ (if bytes_eq (text x) q then Some x.opened else f q))
    → AreQueued text os f → AreQueued text (os ++ x ∷ []) g
queued-put text os x f g s a q m e = elim (cases_Bool (bytes_eq (text x) q)) [
  | inl k ↦ queued-last text os x q m ((bytes_eq-Decides (text x) q).0 k)
      (same_Some x.opened m (sym (s q ∙ ap (λ b. if b then Some x.opened else f q) k) ∙ e))
  | inr k ↦ queued-more text os x q m
      (a q m (sym (s q ∙ ap (λ b. if b then Some x.opened else f q) k) ∙ e))
]

was_kept : (now m : ℕ) (o : Option ℕ) → kept_moment now o ≡ Some m → (o ≡ Some m) × (is_kept now m ≡ true)
was_kept now m None e = absurd (true≢false (sym (ap is_some e)))
was_kept now m (Some t) e = elim (cases_Bool (is_kept now t)) [
  | inl k ↦ let same : Some t ≡ Some m = sym (ap (λ b. if b then Some t else None) k) ∙ e in
      (same, sym (ap (is_kept now) (same_Some t m same)) ∙ k)
  | inr k ↦ absurd (true≢false (sym (sym (ap (λ b. is_some {T = ℕ} (if b then Some t else None)) k)
      ∙ ap is_some e)))
]

queued-forgotten : (text : Opening → Text) (now : ℕ) (o : Opening) (os : List Opening)
    (f g : Text → Option ℕ) → is_kept now o.opened ≡ false
    → ((q : Text) → g q ≡ (if bytes_eq (text o) q then kept_moment now (f q) else f q))
    → AreQueued text (o ∷ os) f → AreQueued text os g
queued-forgotten text now o os f g gone s a q m e = elim (cases_Bool (bytes_eq (text o) q)) [
  | inl k ↦ let was : (f q ≡ Some m) × (is_kept now m ≡ true) =
      was_kept now m (f q)
      (sym (s q ∙ ap (λ b. if b then kept_moment now (f q) else f q) k) ∙ e) in
      elim (a q m was.0) [
        | inl h ↦ absurd (true≢false (sym was.1 ∙ (ap (is_kept now) (sym h.1) ∙ gone)))
        | inr r ↦ r
      ]
  | inr k ↦ elim (a q m (sym (s q ∙ ap (λ b. if b then kept_moment now (f q) else f q) k) ∙ e)) [
    | inl h ↦ absurd (true≢false (sym ((bytes_eq-Decides (text o) q).1 h.0) ∙ k))
    | inr r ↦ r
  ]
]

-- The moments of sessions, of what the table has at an id.
moment_kept : (now : ℕ) (r : Option Record) → option_map (λ r. r.opened) (kept_record now r)
    ≡ kept_moment now (option_map (λ r. r.opened) r)
moment_kept now None = refl
moment_kept now (Some r) = go (is_kept now r.opened) where
  go : (b : Bool) → option_map (λ r. r.opened) (if b then Some r else None)
      ≡ (if b then Some r.opened else None)
  go true = refl
  go false = refl

moment_either : (b : Bool) (r s : Option Record) → option_map (λ r. r.opened) (if b then r else s)
    ≡ (if b then option_map (λ r. r.opened) r else option_map (λ r. r.opened) s)
moment_either true r s = refl
moment_either false r s = refl

-- After the oldest opening left, with its session and nonce where they are forgotten.
pub fits-forgotten : {A B : Type 0} (top now : ℕ) (o : Opening) (os : List Opening)
    (s t : BTreeMap (String A) Session) (n w : BTreeMap (String B) ℕ) → is_kept now o.opened ≡ false
    → ((q : Text) → held t q ≡ (if bytes_eq (id_text o) q then kept_record now (held s q) else held s q))
    → ((q : Text) → get_by_text w q
    ≡ (if bytes_eq (nonce_text o) q then kept_moment now (get_by_text n q) else get_by_text n q))
    → (IsOrdered string_cmp s → IsOrdered string_cmp t) → (IsOrdered string_cmp n → IsOrdered string_cmp w)
    → FitsQueue top s n (o ∷ os) → FitsQueue top t w os
fits-forgotten top now o os s t n w gone at drawn so dr f = record {
  ids_are = queued-forgotten id_text now o os (moment_at s) (moment_at t) gone
      (λ q. ap (option_map (λ r. r.opened)) (at q)
      ∙ (moment_either (bytes_eq (id_text o) q) (kept_record now (held s q)) (held s q)
      ∙ ap (λ x. if bytes_eq (id_text o) q then x else moment_at s q) (moment_kept now (held s q))))
      f.ids_are;
  nonces_are = queued-forgotten nonce_text now o os (get_by_text n) (get_by_text w) gone drawn f.nonces_are;
  ascend = ascend-rest top o os f.ascend;
  sessions_ordered = so f.sessions_ordered;
  nonces_ordered = dr f.nonces_ordered;
}

-- After a session was put, with its opening at the end.
pub fits-put : {A B : Type 0} (top now : ℕ) (os : List Opening) (x : Opening) (nonce : Text)
    (s t : BTreeMap (String A) Session) (n w : BTreeMap (String B) ℕ) → top ≤ now → x.opened ≡ now
    → ((q : Text) → held t q ≡ (if bytes_eq (id_text x) q then Some (fresh nonce now) else held s q))
    → ((q : Text) → get_by_text w q ≡ (if bytes_eq (nonce_text x) q then Some now else get_by_text n q))
    → IsOrdered string_cmp t → IsOrdered string_cmp w → FitsQueue top s n os
    → FitsQueue now t w (os ++ x ∷ [])
fits-put top now os x nonce s t n w le opened at drawn so dr f = record {
  ids_are = queued-put id_text os x (moment_at s) (moment_at t)
      (λ q. ap (option_map (λ r. r.opened)) (at q)
      ∙ (moment_either (bytes_eq (id_text x) q) (Some (fresh nonce now)) (held s q)
      ∙ ap (λ m. if bytes_eq (id_text x) q then Some m else moment_at s q) (sym opened)))
      f.ids_are;
  nonces_are = queued-put nonce_text os x (get_by_text n) (get_by_text w)
      (λ q. drawn q ∙ ap (λ m. if bytes_eq (nonce_text x) q then Some m else get_by_text n q) (sym opened))
      f.nonces_are;
  ascend = subst (λ m. Ascend m (os ++ x ∷ [])) opened (ascend-push top os x (rw opened le) f.ascend);
  sessions_ordered = so;
  nonces_ordered = dr;
}

-- After what leaves every moment and the queue.
pub fits-same : {A B : Type 0} (top now : ℕ) (os : List Opening) (s t : BTreeMap (String A) Session)
    (n w : BTreeMap (String B) ℕ) → top ≤ now → ((q : Text) → moment_at t q ≡ moment_at s q)
    → ((q : Text) → get_by_text w q ≡ get_by_text n q) → (IsOrdered string_cmp s → IsOrdered string_cmp t)
    → (IsOrdered string_cmp n → IsOrdered string_cmp w) → FitsQueue top s n os → FitsQueue now t w os
fits-same top now os s t n w le at drawn so dr f = record {
  ids_are = λ q m e. f.ids_are q m (sym (at q) ∙ e);
  nonces_are = λ q m e. f.nonces_are q m (sym (drawn q) ∙ e);
  ascend = ascend-later top now os le f.ascend;
  sessions_ordered = so f.sessions_ordered;
  nonces_ordered = dr f.nonces_ordered;
}
