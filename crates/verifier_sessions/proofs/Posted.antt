-- What one more post makes of a record.
use Rattle.std.proofs.Common.{◌≡◌, ℕ, refl, ap, sym, ◌+◌, ◌≤◌, ◌<◌, min, Bool, true, false, not, ◌&&◌, ◌||◌}
use Rattle.std.proofs.Common.{List, [], ◌∷◌, ◌++◌, nat_lt, if◌then◌else◌, arith, ltb-true, ltb-false, lt-ltb}
use Rattle.std.proofs.Common.{le-ltb, le-leb, append-nil, ap₂, ◌∙◌}
use Rattle.std.proofs.lemmas.Bool.{cases_Bool}
use Rattle.std.proofs.Common.{inl, inr}
use Rattle.verifier_sessions.specs.History.{Text}
use Rattle.verifier_sessions.specs.Stands.{refusals, is_accepted, stand_with}
use Rattle.verifier_sessions.specs.code.Records.{Record, record_with, posted, is_pending}

-- An answer more: it counts where it is refused and none was accepted before.
pub refusals-more : (brought : List Bool) (a : Bool) →
    refusals (brought ++ a ∷ []) ≡ (if is_accepted brought then refusals brought else
    (refusals brought + (if a then 0 else 1)))
refusals-more [] true = refl
refusals-more [] false = refl
refusals-more (true ∷ brought) a = refl
refusals-more (false ∷ brought) a =
    elim (is_accepted brought) as (λ p. is_accepted brought ≡ p → refusals (false ∷ brought ++ a ∷ [])
    ≡ (if p then refusals (false ∷ brought) else (refusals (false ∷ brought) + (if a then 0 else 1)))) [
      | true ↦ λ e. grind (arith, refusals-more brought a, e)
      | false ↦ λ e. grind (arith, refusals-more brought a, e)
    ] refl

pub is_accepted-more : (brought : List Bool) (a : Bool) → is_accepted (brought ++ a ∷ [])
    ≡ (is_accepted brought || a)
is_accepted-more [] true = refl
is_accepted-more [] false = refl
is_accepted-more (true ∷ brought) a = refl
is_accepted-more (false ∷ brought) a = is_accepted-more brought a

-- The record after a post, by what it brings.
abbrev more : Bool → Bool → ℕ → Bool → ℕ
more in_time a r acc = if in_time && not acc && not a then r + 1 else r

abbrev turns : Bool → Bool → Bool → Bool
turns in_time a acc = if in_time && not acc then a else acc

same_record : (n : Text) (o r s : ℕ) (a b : Bool) → r ≡ s → a ≡ b
    → ◌≡◌ {A = Record} (record { nonce = n; opened = o; refused = r; accepted = a }) (record {
      nonce =
          n;
      opened = o;
      refused = s;
      accepted = b;
    })
same_record n o r s a b e f = rw (e, f) refl

-- `posted` with its tests as arguments: in time, below eight refusals, and so kept as accepted.
shape : (in_time pending below acc a : Bool) → Text → ℕ → ℕ → Record
shape t c b acc a n o m =
    if t && c && not (b && acc)
    then (if a then record { nonce = n; opened = o; refused = m; accepted = true } else record {
      nonce =
          n;
      opened = o;
      refused = m + 1;
      accepted = b && acc;
    })
    else record { nonce = n; opened = o; refused = m; accepted = b && acc }

shape_is : (n : Text) (o r now : ℕ) (acc a : Bool)
    → posted now a (record_with n o r acc)
    ≡ shape (nat_lt now (o + 300)) (nat_lt (min 8 r) 8) (nat_lt r 8) acc a n o (min 8 r)
unfolding shape
shape_is n o r now acc a = refl

and-false : (b : Bool) → false ≡ (b && false)
and-false true = refl
and-false false = refl

and-true : (b : Bool) → b ≡ true → true ≡ (b && true)
and-true b e = rw e refl

-- Below eight refusals.
below : (n : Text) (o r : ℕ) (t acc a : Bool) → r < 8 → shape t true true acc a n o r
    ≡ record_with n o (more t a r acc) (turns t a acc)
unfolding shape
below n o r false true a h = same_record n o r (min 8 r) true (nat_lt r 8 && true) (omega arith)
    (and-true _ (lt-ltb r 8 h))
below n o r false false a h = same_record n o r (min 8 r) false (nat_lt r 8 && false) (omega arith)
    (and-false _)
below n o r true true true h = same_record n o r (min 8 r) true (nat_lt r 8 && true) (omega arith)
    (and-true _ (lt-ltb r 8 h))
below n o r true true false h =
    same_record n o r (min 8 r) true (nat_lt r 8 && true) (omega arith) (and-true _ (lt-ltb r 8 h))
below n o r true false true h =
    same_record n o r (min 8 r) true (nat_lt r 8 && true) (omega arith) (and-true _ (lt-ltb r 8 h))
below n o r true false false h =
    same_record n o (r + 1) (min 8 (r + 1)) false (nat_lt (r + 1) 8 && false) (omega arith) (and-false _)

-- From eight refusals on.
above : (n : Text) (o r : ℕ) (t acc a : Bool) → 8 ≤ r → shape t false false acc a n o 8
    ≡ record_with n o (more t a r acc) (turns t a acc)
unfolding shape
above n o r false acc a h = same_record n o 8 (min 8 r) false (nat_lt r 8 && acc) (omega arith)
    (sym (ap (λ b. b && acc) (le-ltb r 8 h)))
above n o r true true a h = same_record n o 8 (min 8 r) false (nat_lt r 8 && true) (omega arith)
    (sym (ap (λ b. b && true) (le-ltb r 8 h)))
above n o r true false true h =
    same_record n o 8 (min 8 r) false (nat_lt r 8 && true) (omega arith)
    (sym (ap (λ b. b && true) (le-ltb r 8 h)))
above n o r true false false h =
    same_record n o 8 (min 8 (r + 1)) false (nat_lt (r + 1) 8 && false) (omega arith) (and-false _)

-- A record after a post is the record of what is brought then.
posted_is : (n : Text) (o r now : ℕ) (acc a : Bool) → posted now a (record_with n o r acc)
    ≡ record_with n o (more (nat_lt now (o + 300)) a r acc) (turns (nat_lt now (o + 300)) a acc)
posted_is n o r now acc a = elim (cases_Bool (nat_lt r 8)) [
  | inl e ↦ let h : r < 8 = ltb-true r 8 e in
      let m : min 8 r ≡ r = omega arith in
      shape_is n o r now acc a ∙ (ap (λ k. shape (nat_lt now (o + 300)) (nat_lt k 8) (nat_lt r 8) acc a n o
      k) m
      ∙ (ap (λ b. shape (nat_lt now (o + 300)) b b acc a n o r) e
      ∙ below n o r (nat_lt now (o + 300)) acc a h))
  | inr e ↦ let h : 8 ≤ r = ltb-false r 8 e in
      let m : min 8 r ≡ 8 = omega arith in
      shape_is n o r now acc a ∙ (ap (λ k. shape (nat_lt now (o + 300)) (nat_lt k 8) (nat_lt r 8) acc a n o
      k) m
      ∙ (ap (λ b. shape (nat_lt now (o + 300)) false b acc a n o 8) e
      ∙ above n o r (nat_lt now (o + 300)) acc a h))
]

-- The same, by the answers that posts brought.
brings : Bool → Bool → List Bool
brings t a = if t then a ∷ [] else []

more_is : (t a : Bool) (brought : List Bool) → refusals (brought ++ brings t a)
    ≡ more t a (refusals brought) (is_accepted brought)
unfolding brings
more_is false a brought = ap refusals (append-nil brought)
more_is true a brought = refusals-more brought a ∙ counts a (is_accepted brought) (refusals brought) where
  counts : (a acc : Bool) (r : ℕ) → (if acc then r else (r + (if a then 0 else 1))) ≡ more true a r acc
  counts true true r = refl
  counts true false r = omega arith
  counts false true r = refl
  counts false false r = refl

turns_is : (t a : Bool) (brought : List Bool) → is_accepted (brought ++ brings t a)
    ≡ turns t a (is_accepted brought)
unfolding brings
turns_is false a brought = ap is_accepted (append-nil brought)
turns_is true a brought = is_accepted-more brought a ∙ either a (is_accepted brought) where
  either : (a acc : Bool) → (acc || a) ≡ turns true a acc
  either a true = refl
  either a false = refl

pub posted_brings : (n : Text) (o now : ℕ) (brought : List Bool) (a : Bool)
    → record_with n o (refusals (brought ++ (if nat_lt now (o + 300) then a ∷ [] else [])))
    (is_accepted (brought ++ (if nat_lt now (o + 300) then a ∷ [] else [])))
    ≡ posted now a (record_with n o (refusals brought) (is_accepted brought))
unfolding brings
posted_brings n o now brought a =
    ap₂ (λ r acc. record_with n o r acc) (more_is (nat_lt now (o + 300)) a brought)
    (turns_is (nat_lt now (o + 300)) a brought)
    ∙ sym (posted_is n o (refusals brought) now (is_accepted brought) a)

-- A post leaves the moment of the opening.
pub opened-posted : (now : ℕ) (a : Bool) (r : Record) → (posted now a r).opened ≡ r.opened
opened-posted now a r = elim (is_pending now r) as
    (λ p. (if p then (if a then record r { accepted = true } else record r { refused = r.refused + 1 }) else
    r).opened ≡ r.opened) [
      | true ↦ elim a as (λ b. (if b then record r { accepted = true } else record r {
        refused =
            r.refused + 1;
      }).opened ≡ r.opened) [ true ↦ refl | false ↦ refl ]
      | false ↦ refl
    ]

-- A record stands as what it was made of.
pub stand_capped : (now o r : ℕ) (acc : Bool) → stand_with now o (min 8 r) (nat_lt r 8 && acc)
    ≡ stand_with now o r acc
stand_capped now o r acc = elim (cases_Bool (nat_lt r 8)) [
  | inl e ↦ let h : r < 8 = ltb-true r 8 e in
      let m : min 8 r ≡ r = omega arith in
      ap₂ (λ k b. stand_with now o k (b && acc)) m e
  | inr e ↦ let h : 8 ≤ r = ltb-false r 8 e in
      let m : min 8 r ≡ 8 = omega arith in
      ap₂ (λ k b. stand_with now o k (b && acc)) m e ∙ closed now o r acc h
] where
  closed : (now o r : ℕ) (acc : Bool) → 8 ≤ r → stand_with now o 8 false ≡ stand_with now o r acc
  closed now o r acc h = rw (le-leb 8 r h) refl
