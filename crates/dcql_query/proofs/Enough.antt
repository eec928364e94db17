-- The test of the credential queries that are present tells whether they are enough.
use Rattle.std.proofs.lemmas.Bool.Decides.{Decides-eqb, Decides-or, Decides-and}
use Rattle.std.proofs.lemmas.Nat.Bits.{same_from_bits, bit_at_and, bit_at-lt, bit_at_ones, bit_at_ones_above}
use Rattle.std.proofs.lemmas.Bool.{cases_lt}
use Rattle.std.proofs.Common.{◌≡◌, ℕ, ◌-◌, ◌^◌, ◌<◌, ◌≤◌, ◌⊎◌, inl, inr, Bool, true, false, not, ◌||◌}
use Rattle.std.proofs.Common.{List, [], ◌∷◌, Option, Some, None, sym, ap, ◌∙◌, arith, min, refl, subst}
use Rattle.std.specs.Prelude.{bit_and}
use Rattle.std.specs.Int.{bit_at}
use Rattle.std.specs.Bool.{Decides}
use Rattle.std.specs.List.{AllByRecursion, list_any}
use Rattle.dcql_query.specs.Query.{CredentialSet}
use Rattle.dcql_query.specs.Satisfied.{IsMet, IsOneMet, AreEnough, Names}
use Rattle.dcql_query.specs.code.Covered.{covers, is_set_met, are_met}

least_of : (a b : ℕ) → a < 2 → (a ≡ 1 → b ≡ 1) → min a b ≡ a
least_of a b h k = grind (arith, k)

kept : (a b : ℕ) → min a b ≡ a → a ≡ 1 → b < 2 → b ≡ 1
kept a b h k l = omega arith

covered : (p w : ℕ) → Decides (covers p w) (IsMet p w)
covered p w = (there, back) where
  tells : Decides (covers p w) (bit_and w p ≡ w)
  tells = Decides-eqb (bit_and w p) w

  there : covers p w ≡ true → IsMet p w
  there h i n =
      kept (bit_at w i) (bit_at p i) (sym (bit_at_and w p i) ∙ ap (λ x. bit_at x i) (tells.0 h)) n
      (bit_at-lt p i)

  back : IsMet p w → covers p w ≡ true
  back m = tells.1 (same_from_bits _ _ (λ i.
      bit_at_and w p i ∙ least_of (bit_at w i) (bit_at p i) (bit_at-lt w i) (m i)))

one_covered : (p : ℕ) (os : List ℕ) → Decides (list_any (covers p) os) (IsOneMet p os)
one_covered p [] = ((λ h. absurd (cc h)), λ h. absurd h)
one_covered p (o ∷ os) =
    Decides-or (covers p o) (list_any (covers p) os) (covered p o) (one_covered p os)

where_required : (r t : Bool) (M : Type 0) → Decides t M → Decides (not r || t) (r ≡ true → M)
where_required true t M d = ((λ h e. d.0 h), λ f. d.1 (f refl))
where_required false t M d = ((λ h e. absurd (cc e)), λ f. refl)

sets_met : (p : ℕ) (ss : List CredentialSet)
    → Decides (are_met p ss) (AllByRecursion (λ s. s.required ≡ true → IsOneMet p s.options) ss)
sets_met p [] = ((λ h. tt), λ h. refl)
sets_met p (s ∷ ss) =
    Decides-and (is_set_met p s) (are_met p ss)
    (where_required s.required (list_any (covers p) s.options) _ (one_covered p s.options)) (sets_met p ss)

pub some_enough : (p n : ℕ) (o : Option (List CredentialSet)) (ss : List CredentialSet) (t : Bool)
    → o ≡ Some ss → t ≡ are_met p ss → Decides t (AreEnough p n o)
some_enough p n o ss t e f =
    let d = sets_met p ss in
    subst (λ x. Decides t (AreEnough p n x)) (sym e)
    ((λ h. d.0 (sym f ∙ h)), λ a. f ∙ d.1 a)

pub all_enough : (p n : ℕ) (o : Option (List CredentialSet)) (t : Bool) → o ≡ None → t ≡ covers p (2 ^ n - 1)
    → Decides t (AreEnough p n o)
all_enough p n o t e f =
    let d = covered p (2 ^ n - 1) in
    subst (λ x. Decides t (AreEnough p n x)) (sym e) (
      (λ h i low. d.0 (sym f ∙ h) i (bit_at_ones n i low)),
      λ a. f ∙ d.1 (λ i h. elim (cases_lt i n) [
        | inl low ↦ a i low
        | inr high ↦ let z : bit_at (2 ^ n - 1) i ≡ 0 = bit_at_ones_above n i high in absurd (cc (z, h))
      ]),
    )
