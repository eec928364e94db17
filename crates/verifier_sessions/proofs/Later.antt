-- What is kept at a moment, and at later ones.
use Rattle.std.proofs.Common.{◌≡◌, ℕ, refl, ap, sym, ◌∙◌, ◌+◌, ◌≤◌, ◌<◌, Bool, true, false, Option, Some}
use Rattle.std.proofs.Common.{None, option_map, is_some, if◌then◌else◌, arith, ltb-true, ltb-false, lt-ltb}
use Rattle.std.proofs.Common.{le-ltb, le-leb, inl, inr}
use Rattle.std.proofs.lemmas.Bool.{cases_Bool}
use Rattle.verifier_sessions.specs.History.{is_kept}
use Rattle.verifier_sessions.specs.code.Records.{
  Record,
  posted,
  record_stand,
  record_nonce,
  kept_record,
  kept_moment,
}
use Rattle.verifier_sessions.proofs.Posted.{opened-posted}

-- What is kept at a moment was kept before.
pub kept_before : (l now opened : ℕ) → l ≤ now → is_kept now opened ≡ true → is_kept l opened ≡ true
kept_before l now opened h e = let k : now < opened + 3600 =
    ltb-true now (opened + 3600) e in lt-ltb l (opened + 3600) (omega arith)

pub forgotten_after : (l now opened : ℕ) → l ≤ now → is_kept l opened ≡ false → is_kept now opened ≡ false
forgotten_after l now opened h e = let k : opened + 3600 ≤ l =
    ltb-false l (opened + 3600) e in le-ltb now (opened + 3600) (omega arith)

-- Of what was kept, later.
pub kept_record-later : (l now : ℕ) (o : Option Record) → l ≤ now → kept_record now (kept_record l o)
    ≡ kept_record now o
kept_record-later l now None h = refl
kept_record-later l now (Some r) h = elim (cases_Bool (is_kept l r.opened)) [
  | inl e ↦ rw e refl
  | inr e ↦ rw (e, forgotten_after l now r.opened h e) refl
]

pub kept_moment-later : (l now : ℕ) (o : Option ℕ) → l ≤ now → kept_moment now (kept_moment l o)
    ≡ kept_moment now o
kept_moment-later l now None h = refl
kept_moment-later l now (Some opened) h = elim (cases_Bool (is_kept l opened)) [
  | inl e ↦ rw e refl
  | inr e ↦ rw (e, forgotten_after l now opened h e) refl
]

-- Two that are the same where they are kept are so later.
pub records_later : (l now : ℕ) (o p : Option Record) → l ≤ now → kept_record l o ≡ kept_record l p
    → kept_record now o ≡ kept_record now p
records_later l now o p h e = sym (kept_record-later l now o h)
    ∙ (ap (kept_record now) e ∙ kept_record-later l now p h)

pub moments_later : (l now : ℕ) (o p : Option ℕ) → l ≤ now → kept_moment l o ≡ kept_moment l p
    → kept_moment now o ≡ kept_moment now p
moments_later l now o p h e = sym (kept_moment-later l now o h)
    ∙ (ap (kept_moment now) e ∙ kept_moment-later l now p h)

-- A post changes what is kept, and keeps no other.
pub kept_record-posted : (now : ℕ) (a : Bool) (o : Option Record)
    → kept_record now (option_map (posted now a) o) ≡ option_map (posted now a) (kept_record now o)
kept_record-posted now a None = refl
kept_record-posted now a (Some r) =
    ap (λ k. if is_kept now k then Some (posted now a r) else None) (opened-posted now a r)
    ∙ elim (is_kept now r.opened) as (λ p. (if p then Some (posted now a r) else None)
    ≡ option_map (posted now a) (if p then Some r else None)) [ true ↦ refl | false ↦ refl ]

pub records_posted : (now : ℕ) (a : Bool) (o p : Option Record) → kept_record now o ≡ kept_record now p
    → kept_record now (option_map (posted now a) o) ≡ kept_record now (option_map (posted now a) p)
records_posted now a o p e = kept_record-posted now a o
    ∙ (ap (option_map (posted now a)) e ∙ sym (kept_record-posted now a p))

-- The stand and the nonce are those of what is kept.
pub record_stand-kept : (l now : ℕ) (o : Option Record) → l ≤ now → record_stand now (kept_record l o)
    ≡ record_stand now o
record_stand-kept l now None h = refl
record_stand-kept l now (Some r) h = elim (cases_Bool (is_kept l r.opened)) [
  | inl e ↦ rw e refl
  | inr e ↦ let k : r.opened + 3600 ≤ l = ltb-false l (r.opened + 3600) e in
      rw (e, le-leb (r.opened + 3600) now (omega arith)) refl
]

pub record_nonce-kept : (l now : ℕ) (o : Option Record) → l ≤ now → record_nonce now (kept_record l o)
    ≡ record_nonce now o
record_nonce-kept l now None h = refl
record_nonce-kept l now (Some r) h = elim (cases_Bool (is_kept l r.opened)) [
  | inl e ↦ rw e refl
  | inr e ↦ rw (e, forgotten_after l now r.opened h e) refl
]

pub is_some-kept : (now : ℕ) (o : Option Record) → is_some (kept_record now o)
    ≡ is_some (kept_moment now (option_map (λ r. r.opened) o))
is_some-kept now None = refl
is_some-kept now (Some r) = elim (is_kept now r.opened) as (λ p. is_some {T =
    Record} (if p then Some r else None) ≡ is_some {T = ℕ} (if p then Some r.opened else None)) [
      | true ↦
          refl
      | false ↦ refl
    ]
