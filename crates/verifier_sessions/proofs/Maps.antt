-- What a table has at a text after a change of one entry, and after those that are forgotten were taken out.
use Rattle.std.proofs.Common.{◌≡◌, ℕ, refl, ap, sym, ◌∙◌, Bool, true, false, List, Option, Some, None}
use Rattle.std.proofs.Common.{option_map}
use Rattle.std.proofs.Common.{is_some, IsSome, if◌then◌else◌, inl, inr, bytes_eq, String, string_bytes}
use Rattle.std.proofs.Common.{string_cmp, rules, true≢false}
use Rattle.std.specs.BTreeMap.{BTreeMap, get, get_by_text, Updates, UpdatesBy}
use Rattle.std.proofs.lemmas.Bool.{cases_Bool}
use Rattle.std.proofs.lemmas.Map.Text.{btree_map_updates_text, text_cmp}
use Rattle.std.proofs.lemmas.Slice.Eq.{bytes_eq-Decides}
use Rattle.verifier_sessions.specs.declared.session.Session.{Session}
use Rattle.verifier_sessions.specs.History.{Text, is_kept}
use Rattle.verifier_sessions.specs.code.Records.{Record, held, record_in, posted, fresh, kept_record}
use Rattle.verifier_sessions.specs.code.Records.{kept_moment}

-- After a value was put at a key.
pub put_is : {A X : Type 0} (k : String A) (bs : List ℕ) (w : X) (m n : BTreeMap (String A) X)
    → string_bytes k ≡ bs
    → Updates string_cmp m n k (Some w) → (q : List ℕ) → get_by_text n q
    ≡ (if bytes_eq bs q then Some w else get_by_text m q)
put_is k bs w m n e u q = rw (← e) (btree_map_updates_text (string_bytes k) m n (Some w) u q)

-- After what was there was put back.
pub put_back : {A X : Type 0} (k : String A) (bs : List ℕ) (w : X) (before : Option X)
    (m n r : BTreeMap (String A) X) → string_bytes k ≡ bs
    → Updates string_cmp m n k (Some w) → before ≡ get string_cmp m k
    → (IsSome (get_by_text n bs) → (q : List ℕ) → get_by_text r q
    ≡ (if bytes_eq bs q then before else get_by_text n q))
    → (q : List ℕ) → get_by_text r q ≡ get_by_text m q
put_back k bs w before m n r e u b back q = back there q
    ∙ rw (put_is k bs w m n e u q) (elim (cases_Bool (bytes_eq bs q)) [
      | inl f ↦ rw f (b ∙ ap (λ x. get_by_text m x) (e ∙ (bytes_eq-Decides bs q).0 f))
      | inr f ↦ rw f refl
    ]) where
      there : IsSome (get_by_text n bs)
      there = rw (put_is k bs w m n e u bs, (bytes_eq-Decides bs bs).1 refl) (search rules)

-- After a post to a session that is there.
pub posted_at : {A : Type 0} (bs : List ℕ) (now : ℕ) (a : Bool) (s w : Session)
    (m n : BTreeMap (String A) Session)
    → UpdatesBy string_cmp (text_cmp bs) m n (Some w) → get_by_text m bs ≡ Some s → record_in w
    ≡ posted now a (record_in s)
    → (q : Text) → held n q ≡ (if bytes_eq bs q then option_map (posted now a) (held m q) else held m q)
posted_at bs now a s w m n u there is q =
    rw (btree_map_updates_text bs m n (Some w) u q) (elim (cases_Bool (bytes_eq bs q)) [
      | inl f ↦ let same : bs ≡ q = (bytes_eq-Decides bs q).0 f in rw (f, ← same, there) (ap Some is)
      | inr f ↦ rw f refl
    ])

-- After what is forgotten was taken out.
none_kept : (now : ℕ) (o : Option Record) → is_some (kept_record now o) ≡ false → None ≡ kept_record now o
none_kept now None e = refl
none_kept now (Some r) e = elim (cases_Bool (is_kept now r.opened)) [
  | inl k ↦ absurd (true≢false (sym (ap (λ b. is_some {T = Record} (if b then Some r else None)) k) ∙ e))
  | inr k ↦ rw k refl
]

none_kept_moment : (now : ℕ) (o : Option ℕ) → is_some (kept_moment now o) ≡ false → None ≡ kept_moment now o
none_kept_moment now None e = refl
none_kept_moment now (Some t) e = elim (cases_Bool (is_kept now t)) [
  | inl k ↦ absurd (true≢false (sym (ap (λ b. is_some {T = ℕ} (if b then Some t else None)) k) ∙ e))
  | inr k ↦ rw k refl
]

pub session_forgotten : {A : Type 0} (bs : List ℕ) (now : ℕ) (m n : BTreeMap (String A) Session)
    → UpdatesBy string_cmp (text_cmp bs) m n None → is_some (kept_record now (held m bs)) ≡ false
    → (q : Text) → held n q ≡ (if bytes_eq bs q then kept_record now (held m q) else held m q)
session_forgotten bs now m n u e q =
    rw (btree_map_updates_text bs m n None u q) (elim (cases_Bool (bytes_eq bs q)) [
      | inl f ↦ let same : bs ≡ q = (bytes_eq-Decides bs q).0 f in
          rw (f, ← same) (none_kept now (held m bs) e)
      | inr f ↦ rw f refl
    ])

pub nonce_forgotten : {A : Type 0} (bs : List ℕ) (now : ℕ) (m n : BTreeMap (String A) ℕ)
    → UpdatesBy string_cmp (text_cmp bs) m n None → is_some (kept_moment now (get_by_text m bs)) ≡ false
    → (q : Text) → get_by_text n q
    ≡ (if bytes_eq bs q then kept_moment now (get_by_text m q) else get_by_text m q)
nonce_forgotten bs now m n u e q =
    rw (btree_map_updates_text bs m n None u q) (elim (cases_Bool (bytes_eq bs q)) [
      | inl f ↦ let same : bs ≡ q = (bytes_eq-Decides bs q).0 f in
          rw (f, ← same) (none_kept_moment now (get_by_text m bs) e)
      | inr f ↦ rw f refl
    ])

-- What is kept stays.
some_kept : (now : ℕ) (o : Option Record) → is_some (kept_record now o) ≡ true → o ≡ kept_record now o
some_kept now None e = refl
some_kept now (Some r) e = elim (cases_Bool (is_kept now r.opened)) [
  | inl k ↦ rw k refl
  | inr k ↦ absurd (true≢false (sym e ∙ ap (λ b. is_some {T = Record} (if b then Some r else None)) k))
]

some_kept_moment : (now : ℕ) (o : Option ℕ) → is_some (kept_moment now o) ≡ true → o ≡ kept_moment now o
some_kept_moment now None e = refl
some_kept_moment now (Some t) e = elim (cases_Bool (is_kept now t)) [
  | inl k ↦ rw k refl
  | inr k ↦ absurd (true≢false (sym e ∙ ap (λ b. is_some {T = ℕ} (if b then Some t else None)) k))
]

pub session_stays : {A : Type 0} (bs : List ℕ) (now : ℕ) (m : BTreeMap (String A) Session)
    → is_some (kept_record now (held m bs)) ≡ true
    → (q : Text) → held m q ≡ (if bytes_eq bs q then kept_record now (held m q) else held m q)
session_stays bs now m e q = elim (cases_Bool (bytes_eq bs q)) [
  | inl f ↦ let same : bs ≡ q = (bytes_eq-Decides bs q).0 f in rw (f, ← same) (some_kept now (held m bs) e)
  | inr f ↦ rw f refl
]

pub nonce_stays : {A : Type 0} (bs : List ℕ) (now : ℕ) (m : BTreeMap (String A) ℕ)
    → is_some (kept_moment now (get_by_text m bs)) ≡ true → (q : Text) → get_by_text m q
    ≡ (if bytes_eq bs q then kept_moment now (get_by_text m q) else get_by_text m q)
nonce_stays bs now m e q = elim (cases_Bool (bytes_eq bs q)) [
  | inl f ↦ let same : bs ≡ q = (bytes_eq-Decides bs q).0 f in
      rw (f, ← same) (some_kept_moment now (get_by_text m bs) e)
  | inr f ↦ rw f refl
]

-- What is forgotten counts for nothing.
pub kept_either : (now : ℕ) (b : Bool) (o : Option Record)
    → kept_record now (if b then kept_record now o else o) ≡ kept_record now o
kept_either now false o = refl
kept_either now true None = refl
kept_either now true (Some r) = elim (cases_Bool (is_kept now r.opened)) [
  | inl k ↦ rw k (rw k refl)
  | inr k ↦ rw k refl
]

pub kept_either_moment : (now : ℕ) (b : Bool) (o : Option ℕ)
    → kept_moment now (if b then kept_moment now o else o) ≡ kept_moment now o
kept_either_moment now false o = refl
kept_either_moment now true None = refl
kept_either_moment now true (Some t) = elim (cases_Bool (is_kept now t)) [
  | inl k ↦ rw k (rw k refl)
  | inr k ↦ rw k refl
]

-- After a new session was put at an id.
pub session_put : {A : Type 0} (k : String A) (bs nonce : List ℕ) (now : ℕ) (w : Session)
    (m n : BTreeMap (String A) Session) → string_bytes k ≡ bs
    → record_in w ≡ fresh nonce now → Updates string_cmp m n k (Some w)
    → (q : Text) → held n q ≡ (if bytes_eq bs q then Some (fresh nonce now) else held m q)
session_put k bs nonce now w m n e is u q = rw (put_is k bs w m n e u q) (elim (cases_Bool (bytes_eq bs q)) [
  | inl f ↦ rw f (ap Some is)
  | inr f ↦ rw f refl
])
