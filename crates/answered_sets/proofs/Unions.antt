-- The table of unions, set by set.
use Rattle.std.proofs.Common.{◌≡◌, ℕ, ◌+◌, ◌<◌, ◌≤◌, ◌^◌, Bool, true, false, List, [], ◌∷◌, Some, None, refl}
use Rattle.std.proofs.Common.{sym, ap, ◌∙◌, subst, ◌⊎◌, inl, inr, ◌↔◌, arith, max, set, get_or, length, drop}
use Rattle.std.proofs.Common.{replicate, get_or-set_same, get_or-set_other, ◌/◌, ◌%◌, ◌*◌, add-one, drop-cons}
use Rattle.std.proofs.Common.{suc}
use Rattle.std.specs.Prelude.{bit_or, ◌==◌, ◌||◌}
use Rattle.std.specs.Int.{bit_at, w64}
use Rattle.std.specs.Int.Bits.{or_zero_l, or_zero_r}
use Rattle.std.proofs.lemmas.Bool.{or_cases, eq-eqb, eqb-true, ne_eqb, cases_eq, cases_lt}
use Rattle.std.proofs.lemmas.List.{get_or-replicate, length-replicate}
use Rattle.std.proofs.Math.ListN.{get_or-eq_default, drop_of_length-le}
use Rattle.std.proofs.lemmas.Nat.{le_or_l}
use Rattle.std.proofs.lemmas.Nat.Bits.{same_from_bits, bit_at_or, bit_at_set_same, bit_at_set_other}
use Rattle.std.proofs.lemmas.Nat.Bits.{bit_at-zero}
use Rattle.dcql_query.specs.Query.{CredentialSet}
use Rattle.answered_sets.specs.Answered.{union, IsUnion}
use Rattle.answered_sets.specs.Table.{is_in}
use Rattle.answered_sets.specs.code.Steps.{Joins, Chooses, Goes, Reaches}

-- ---- one bit

or_true_l : (x y : Bool) → x ≡ true → (x || y) ≡ true
or_true_l true y h = refl
or_true_l false y h = absurd (cc h)

or_true_r : (x y : Bool) → y ≡ true → (x || y) ≡ true
or_true_r true y h = refl
or_true_r false y h = h

same_place : (a b : ℕ) → a / 64 ≡ b / 64 → a % 64 ≡ b % 64 → a ≡ b
same_place a b h k = omega arith

or_false_l : (x y : Bool) → x ≡ false → (x || y) ≡ y
or_false_l x y h = ap (λ z. z || y) h

pub put_is : (words : List ℕ) (s a : ℕ) → s < 2 ^ 16 → length words ≡ 1024
    → is_in (set words (s / 64) (bit_or (get_or words (s / 64) 0) (1 * 2 ^ (s % 64) % 2 ^ 64))) a ≡
    (a == s || is_in words a)
put_is words s a h len =
    let v : ℕ = bit_or (get_or words (s / 64) 0) (1 * 2 ^ (s % 64) % 2 ^ 64) in
    let low : s / 64 < length words = omega arith in
    let bit : s % 64 < 64 = omega arith in
    elim (cases_eq (a / 64) (s / 64)) [
      | inl e ↦
          let word : get_or (set words (s / 64) v) (a / 64) 0 ≡ v =
          ap (λ i. get_or (set words (s / 64) v) i 0) e ∙ get_or-set_same words (s / 64) v 0 low in
          elim (cases_eq (a % 64) (s % 64)) [
            | inl f ↦
                let one : bit_at v (a % 64) ≡ 1 = ap (bit_at v) f
                ∙ bit_at_set_same w64 (get_or words (s / 64) 0) (s % 64) bit in
                ap (λ x. bit_at x (a % 64) == 1) word ∙ ap (λ x. x == 1) one
                ∙ sym (or_true_l _ (is_in words a) (eq-eqb a s (same_place a s e f)))
            | inr f ↦
                let kept : bit_at v (a % 64) ≡ bit_at (get_or words (s / 64) 0) (a % 64) =
                bit_at_set_other w64 (get_or words (s / 64) 0) (s % 64) bit (a % 64) f in
                ap (λ x. bit_at x (a % 64) == 1) word
                ∙ ap (λ x. x == 1) (kept ∙ ap (λ i. bit_at (get_or words i 0) (a % 64)) (sym e))
                ∙ sym (or_false_l _ (is_in words a) (ne_eqb a s (λ x. f (ap (λ n. n % 64) x))))
          ]
      | inr e ↦
          let word : get_or (set words (s / 64) v) (a / 64) 0 ≡ get_or words (a / 64) 0 =
          get_or-set_other words (s / 64) (a / 64) v 0 e in
          ap (λ x. bit_at x (a % 64) == 1) word
          ∙ sym (or_false_l _ (is_in words a) (ne_eqb a s (λ x. e (ap (λ n. n / 64) x))))
    ]

pub put_into : (words old : List ℕ) (s a : ℕ) → s < 2 ^ 16 → length words ≡ 1024 → words ≡ old
    → is_in (set words (s / 64) (bit_or (get_or words (s / 64) 0) (1 * 2 ^ (s % 64) % 2 ^ 64))) a ≡
    (a == s || is_in old a)
put_into words old s a h len e = put_is words s a h len ∙ ap (λ w. a == s || is_in w a) e

get_or-zeros : (n i : ℕ) → let z : ℕ = 0 in get_or (replicate n z) i z ≡ z
get_or-zeros n i = elim (cases_lt i n) [
  | inl low ↦ get_or-replicate n i 0 0 low
  | inr past ↦ get_or-eq_default (replicate n 0) 0 (omega (arith, length-replicate {A = ℕ}))
]

pub none_in : (words : List ℕ) → words ≡ replicate 1024 0 → (a : ℕ) → is_in words a ≡ false
none_in words e a = ap (λ x. bit_at x (a % 64) == 1) (ap (λ w. get_or w (a / 64) 0) e
    ∙ get_or-zeros 1024 (a / 64)) ∙ ap (λ x. x == 1) (bit_at-zero (a % 64))

pub only_in : (words new : List ℕ) (s a : ℕ) → words ≡ replicate 1024 0
    → is_in new a ≡ (a == s || is_in words a) → is_in new a ≡ (a == s)
only_in words new s a e h = h ∙ or_none (a == s) (is_in words a) (none_in words e a) where
  or_none : (x y : Bool) → y ≡ false → (x || y) ≡ x
  or_none true y h = refl
  or_none false y h = h

-- ---- unions

max_assoc : (a b c : ℕ) → max (max a b) c ≡ max a (max b c)
max_assoc a b c = omega arith

pub or_assoc : (a b c : ℕ) → bit_or (bit_or a b) c ≡ bit_or a (bit_or b c)
or_assoc a b c = same_from_bits _ _ (λ i.
    bit_at_or (bit_or a b) c i ∙ ap (λ x. max x (bit_at c i)) (bit_at_or a b i)
    ∙ max_assoc (bit_at a i) (bit_at b i) (bit_at c i)
    ∙ sym (bit_at_or a (bit_or b c) i ∙ ap (λ x. max (bit_at a i) x) (bit_at_or b c i)))

-- one more option
pub join_step : (t u : Bool) (s o a : ℕ) (os : List ℕ) → u ≡ (a == bit_or s o || t)
    → ((t ≡ true) ⊎ Joins (o ∷ os) s a) ↔ ((u ≡ true) ⊎ Joins os s a)
join_step t u s o a os e = (there, back) where
  there : (t ≡ true) ⊎ Joins (o ∷ os) s a → (u ≡ true) ⊎ Joins os s a
  there (inl h) = inl (e ∙ or_true_r _ t h)
  there (inr (x, inl same, is)) = inl (e ∙ or_true_l _ t
      (eq-eqb a (bit_or s o) (sym is ∙ ap (bit_or s) same)))
  there (inr (x, inr later, is)) = inr (x, later, is)

  back : (u ≡ true) ⊎ Joins os s a → (t ≡ true) ⊎ Joins (o ∷ os) s a
  back (inl h) = elim (or_cases (a == bit_or s o) t (sym e ∙ h)) [
    | inl here ↦ inr (o, inl refl, sym (eqb-true a (bit_or s o) here))
    | inr was ↦ inl was
  ]
  back (inr (x, later, is)) = inr (x, inr later, is)

no_join : (s a : ℕ) → Joins [] s a → ⊥
no_join s a h = h.1

pub all_joined : (t : Bool) (s a : ℕ) → ((t ≡ true) ⊎ Joins [] s a) ↔ (t ≡ true)
all_joined t s a = ((λ h. elim h [ inl x ↦ x | inr j ↦ absurd (no_join s a j) ]), λ h. inl h)

-- what a step of the loop over the options keeps
pub join_more : (t u : Bool) (s a i o : ℕ) (os : List ℕ) → i < length os → o ≡ get_or os i 0
    → u ≡ (a == bit_or s o || t) → (G : Type 0)
    → ((t ≡ true) ⊎ Joins (drop i os) s a) ↔ G → ((u ≡ true) ⊎ Joins (drop (i + 1) os) s a) ↔ G
join_more t u s a i o os h is e G inv =
    let cut : drop i os ≡ o ∷ drop (i + 1) os = rw (add-one, is) (drop-cons os i 0 h) in
    let step = join_step t u s o a (drop (i + 1) os) e in (
      (λ x. inv.0 (subst (λ l. (t ≡ true) ⊎ Joins l s a) (sym cut) (step.1 x))),
      λ g. step.0
          (subst (λ l. (t ≡ true) ⊎ Joins l s a) cut (inv.1 g)),
    )

-- every choice from a credential set
pub choose_required : (t u : Bool) (set : CredentialSet) (b a : ℕ) → set.required ≡ true
    → (u ≡ true) ↔ ((t ≡ true) ⊎ Joins set.options b a) → (u ≡ true) ↔ ((t ≡ true) ⊎ Chooses set b a)
choose_required t u set b a r h = (there, back) where
  there : u ≡ true → (t ≡ true) ⊎ Chooses set b a
  there e = elim (h.0 e) [ inl x ↦ inl x | inr j ↦ inr (inr j) ]

  back : (t ≡ true) ⊎ Chooses set b a → u ≡ true
  back (inl x) = h.1 (inl x)
  back (inr (inl x)) = let f = x.0 in absurd (cc (r, f))
  back (inr (inr j)) = h.1 (inr j)

pub choose_free : (t s u : Bool) (set : CredentialSet) (b a : ℕ) → set.required ≡ false → s ≡ (a == b || t)
    → (u ≡ true) ↔ ((s ≡ true) ⊎ Joins set.options b a) → (u ≡ true) ↔ ((t ≡ true) ⊎ Chooses set b a)
choose_free t s u set b a r e h = (there, back) where
  there : u ≡ true → (t ≡ true) ⊎ Chooses set b a
  there x = elim (h.0 x) [
    | inl y ↦ elim (or_cases (a == b) t (sym e ∙ y)) [
      | inl same ↦
          inr (inl (r, sym (eqb-true a b same)))
      | inr was ↦ inl was
    ]
    | inr j ↦ inr (inr j)
  ]

  back : (t ≡ true) ⊎ Chooses set b a → u ≡ true
  back (inl x) = h.1 (inl (e ∙ or_true_r (a == b) t x))
  back (inr (inl x)) = h.1 (inl (e ∙ or_true_l (a == b) t (eq-eqb a b (sym x.1))))
  back (inr (inr j)) = h.1 (inr j)

-- one more set of those that were reached before
pub goes_past : (words : List ℕ) (set : CredentialSet) (n a : ℕ) → is_in words n ≡ false
    → Goes words set n a ↔ Goes words set (n + 1) a
goes_past words set n a h = (there, back) where
  there : Goes words set n a → Goes words set (n + 1) a
  there (b, below, is, how) = (b, omega arith, is, how)

  back : Goes words set (n + 1) a → Goes words set n a
  back (b, below, is, how) = (b, later b below is, is, how) where
    later : (b : ℕ) → b < n + 1 → is_in words b ≡ true → b < n
    later b below is = grind (arith, h)

pub goes_on : (words : List ℕ) (set : CredentialSet) (n a : ℕ) (t u : Bool) → is_in words n ≡ true
    → (u ≡ true) ↔ ((t ≡ true) ⊎ Chooses set n a) → (t ≡ true) ↔ Goes words set n a
    → (u ≡ true) ↔ Goes words set (n + 1) a
goes_on words set n a t u h step inv = (there, back) where
  there : u ≡ true → Goes words set (n + 1) a
  there x = elim (step.0 x) [
    | inl y ↦ let g = inv.0 y in (g.0, omega arith, g.2, g.3)
    | inr now ↦ (n, omega arith, h, now)
  ]

  back : Goes words set (n + 1) a → u ≡ true
  back (b, below, is, how) = elim (cases_eq b n) [
    | inl e ↦ step.1 (inr (subst (λ m. Chooses set m a) e how))
    | inr f ↦ step.1 (inl (inv.1 (b, omega arith, is, how)))
  ]

pub goes_nowhere : (words : List ℕ) (set : CredentialSet) (a : ℕ) → Goes words set 0 a → ⊥
goes_nowhere words set a h = let low : h.0 < 0 = h.1 in omega arith

-- ---- the credential sets, one after the other

-- the rest of the sets gives the result
pub reach_more : (words new : List ℕ) (set : CredentialSet) (ss : List CredentialSet)
    → ((b : ℕ) → b < 2 ^ 16 → (is_in new b ≡ true) ↔ Goes words set (2 ^ 16) b)
    → (a : ℕ) → a < 2 ^ 16 → Reaches words (set ∷ ss) a ↔ Reaches new ss a
reach_more words new set ss step a low = (there, back) where
  small : (b o : ℕ) (u : ℕ) → bit_or (bit_or b o) u ≡ a → bit_or b o < 2 ^ 16
  small b o u e = omega (arith, le_or_l (bit_or b o) u)

  there : Reaches words (set ∷ ss) a → Reaches new ss a
  there (b, below, is, (Some o ∷ os, choice, union_is)) =
      let e : bit_or (bit_or b o) (union os) ≡ a = or_assoc b o (union os) ∙ union_is in
      let fits = small b o (union os) e in (
        bit_or b o,
        fits,
        (step (bit_or b o) fits).1 (b, below, is, inr (o, choice.0, refl)),
        (os, choice.1, e),
      )
  there (b, below, is, (None ∷ os, choice, union_is)) =
      (b, below, (step b below).1 (b, below, is, inl (choice.0, refl)), (os, choice.1, union_is))
  there (b, below, is, ([], choice, union_is)) = absurd choice

  back : Reaches new ss a → Reaches words (set ∷ ss) a
  back (b, below, is, (os, choice, union_is)) = by ((step b below).0 is) where
    by : Goes words set (2 ^ 16) b → Reaches words (set ∷ ss) a
    by (c, under, was, inl free) = (
      c,
      under,
      was,
      (None ∷ os, (free.0, choice), ap (λ x. bit_or x (union os)) free.1 ∙ union_is),
    )
    by (c, under, was, inr (o, among, joins)) = (
      c,
      under,
      was,
      (
        Some o ∷ os,
        (among, choice),
        sym (or_assoc c o (union os))
            ∙ ap (λ x. bit_or x (union os)) joins ∙ union_is,
      ),
    )

pub reach_start : (words : List ℕ) (ss : List CredentialSet)
    → ((b : ℕ) → b < 2 ^ 16 → is_in words b ≡ (b == 0)) → (a : ℕ) → Reaches words ss a ↔ IsUnion ss a
reach_start words ss only a = (there, back) where
  there : Reaches words ss a → IsUnion ss a
  there (b, below, is, (os, choice, union_is)) =
      let e : b ≡ 0 = eqb-true b 0 (sym (only b below) ∙ is) in
      (os, choice, sym (or_zero_l (union os)) ∙ ap (λ x. bit_or x (union os)) (sym e) ∙ union_is)

  back : IsUnion ss a → Reaches words ss a
  back (os, choice, union_is) = (
    0,
    omega arith,
    only 0 (omega arith),
    (
      os,
      choice,
      or_zero_l (union os)
          ∙ union_is,
    ),
  )

pub reach_end : (words : List ℕ) (a : ℕ) → a < 2 ^ 16 → Reaches words [] a ↔ (is_in words a ≡ true)
reach_end words a low = (there, back) where
  there : Reaches words [] a → is_in words a ≡ true
  there (b, below, is, ([], choice, union_is)) =
      subst (λ x. is_in words x ≡ true) (sym (or_zero_r b) ∙ union_is) is
  there (b, below, is, (o ∷ os, choice, union_is)) = absurd choice

  back : is_in words a ≡ true → Reaches words [] a
  back h = (a, low, h, ([], tt, or_zero_r a))

pub reach_step : (words new : List ℕ) (sets : List CredentialSet) (i : ℕ) (d : CredentialSet)
    → i < length sets
    → ((b : ℕ) → b < 2 ^ 16 → (is_in new b ≡ true) ↔ Goes words (get_or sets i d) (2 ^ 16) b) → (a : ℕ)
    → a < 2 ^ 16 → (G : Type 0)
    → Reaches words (drop i sets) a ↔ G → Reaches new (drop (i + 1) sets) a ↔ G
reach_step words new sets i d h step a low G inv =
    let cut : drop i sets ≡ get_or sets i d ∷ drop (i + 1) sets = rw add-one (drop-cons sets i d h) in
    let more = reach_more words new (get_or sets i d) (drop (i + 1) sets) step a low in (
      (λ x. inv.0 (subst (λ l. Reaches words l a) (sym cut) (more.1 x))),
      λ g. more.0
          (subst (λ l. Reaches words l a) cut (inv.1 g)),
    )

pub reach_done : (words : List ℕ) (sets : List CredentialSet) (i : ℕ) → length sets ≤ i → (a : ℕ) → a < 2 ^ 16
    → Reaches words (drop i sets) a ↔ IsUnion sets a → (is_in words a ≡ true) ↔ IsUnion sets a
reach_done words sets i past a low inv =
    let none : drop i sets ≡ [] = drop_of_length-le sets past in
    let last = reach_end words a low in (
      (λ x. inv.0 (subst (λ l. Reaches words l a) (sym none) (last.1 x))),
      λ u. last.0
          (subst (λ l. Reaches words l a) none (inv.1 u)),
    )
