-- How often texts stand among some.
use Rattle.std.proofs.Common.{◌≡◌, ◌≤◌, ℕ, ◌+◌, Bool, true, false, not, cond, List, [], ◌∷◌, ◌++◌, length}
use Rattle.std.proofs.Common.{map, refl, ap, arith, inl, inr}
use Rattle.std.specs.List.{AllByRecursion}
use Rattle.std.specs.Str.{bytes_eq}
use Rattle.std.proofs.lemmas.Bool.{cases_Bool, and_parts, and_from, or_parts, not_from_false}
use Rattle.std.proofs.lemmas.Slice.Eq.{bytes_eq-Decides}
use Rattle.base_forms.specs.Texts.{Utf8, is_among, differ}
use Rattle.sdjwt_digests.specs.Disclosures.{Disclosed}
use Rattle.sdjwt_disclosures.specs.Spelling.{times}
use Rattle.base_forms.proofs.Differing.{bytes_eq-flip}

-- one where a test is true
abbrev pub one : Bool → ℕ
one b = cond b 1 0

pub one_true : (b : Bool) → b ≡ true → one b ≡ 1
one_true b e = ap one e

pub one_false : (b : Bool) → b ≡ false → one b ≡ 0
one_false b e = ap one e

pub same_text : (x : Utf8) → bytes_eq x x ≡ true
same_text x = (bytes_eq-Decides x x).1 refl

pub times-append : (x : Utf8) (xs ys : List Utf8) → times x (xs ++ ys) ≡ times x xs + times x ys
times-append x [] ys = omega arith
times-append x (z ∷ zs) ys = omega (arith, times-append x zs ys)

pub times_none : (x : Utf8) (xs : List Utf8) → is_among x xs ≡ false → times x xs ≡ 0
times_none x [] h = refl
times_none x (y ∷ ys) h =
    let both = or_parts (bytes_eq y x) (is_among x ys) h in
    omega (arith, one_false (bytes_eq y x) both.0, times_none x ys both.1)

pub times_some : (x : Utf8) (xs : List Utf8) → is_among x xs ≡ true → 1 ≤ times x xs
times_some x [] h = cc
times_some x (y ∷ ys) h = elim (cases_Bool (bytes_eq y x)) [
  | inl same ↦ omega (arith, one_true (bytes_eq y x) same)
  | inr other ↦ let rest : is_among x ys ≡ true =
      (rw other at h) in omega (arith, one_false (bytes_eq y x) other, times_some x ys rest)
]

pub among_from : (x : Utf8) (xs : List Utf8) → 1 ≤ times x xs → is_among x xs ≡ true
among_from x xs h = elim (cases_Bool (is_among x xs)) [
  | inl among ↦ among
  | inr apart ↦ absurd (omega (arith, times_none x xs apart))
]

pub differ_times : (xs : List Utf8) → differ xs ≡ true → (x : Utf8) → times x xs ≤ 1
differ_times [] h x = omega arith
differ_times (y ∷ ys) h x = elim (cases_Bool (bytes_eq y x)) [
  | inl same ↦
      let both = and_parts (not (is_among y ys)) (differ ys) h in
      omega (
        arith,
        one_true (bytes_eq y x) same,
        times_at y x ys same (times_none y ys (flipped (is_among y ys) both.0)),
      )
  | inr other ↦
      let both = and_parts (not (is_among y ys)) (differ ys) h in
      omega (arith, one_false (bytes_eq y x) other, differ_times ys both.1 x)
] where
  flipped : (b : Bool) → not b ≡ true → b ≡ false
  flipped true e = cc
  flipped false e = refl

  times_at : (y x : Utf8) (ys : List Utf8) → bytes_eq y x ≡ true → times y ys ≡ 0 → times x ys ≡ 0
  times_at y x ys same none = let is = (bytes_eq-Decides y x).0 same in rw (← is) none

pub times_differ : (xs : List Utf8) → ((x : Utf8) → times x xs ≤ 1) → differ xs ≡ true
times_differ [] h = refl
times_differ (y ∷ ys) h =
    and_from (not (is_among y ys)) (differ ys) apart
    (times_differ ys (λ x. let here = h x in omega arith)) where
      apart : not (is_among y ys) ≡ true
      apart = elim (cases_Bool (is_among y ys)) [
        | inl among ↦ let here =
            h y in absurd (omega (arith, times_some y ys among, one_true (bytes_eq y y) (same_text y)))
        | inr new ↦ not_from_false (is_among y ys) new
      ]

-- ---- counted from both sides

-- how often those of the second list stand in the first, together
abbrev pub total : List Utf8 → List Utf8 → ℕ
total ys [] = 0
total ys (u ∷ us) = times u ys + total ys us

total_nil : (ys : List Utf8) → total [] ys ≡ 0
total_nil [] = refl
total_nil (y ∷ ys) = omega (arith, total_nil ys)

total_more : (u : Utf8) (us ys : List Utf8) → total (u ∷ us) ys ≡ times u ys + total us ys
total_more u us [] = refl
total_more u us (y ∷ ys) = omega (arith, total_more u us ys, ap one (bytes_eq-flip u y))

total_swap : (ys us : List Utf8) → total ys us ≡ total us ys
total_swap ys [] = omega (arith, total_nil ys)
total_swap ys (u ∷ us) = omega (arith, total_swap ys us, total_more u us ys)

total_each : (us : List Utf8) (ls : List Disclosed) → AllByRecursion (λ l. times l.digest us ≡ 1) ls
    → total us (map (λ l. l.digest) ls) ≡ length ls
total_each us [] h = refl
total_each us (l ∷ ls) h = omega (arith, h.0, total_each us ls h.1)

total_at_least : (ys us : List Utf8) → AllByRecursion (λ u. 1 ≤ times u ys) us → length us ≤ total ys us
total_at_least ys [] h = omega arith
total_at_least ys (u ∷ us) h = omega (arith, h.0, total_at_least ys us h.1)

-- where each disclosure is used once, and nothing else is, no more are used than there are
pub few_used : (ls : List Disclosed) (us : List Utf8) → AllByRecursion (λ l. times l.digest us ≡ 1) ls
    → AllByRecursion (λ u. 1 ≤ times u (map (λ l. l.digest) ls)) us → length us ≤ length ls
few_used ls us each within =
    omega (
      arith,
      total_each us ls each,
      total_at_least (map (λ l. l.digest) ls) us within,
      total_swap (map (λ l. l.digest) ls) us,
    )
