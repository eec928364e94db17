-- A pick list in the words of the definition, and head by head.
use Rattle.std.proofs.Common.{◌≡◌, ◌≢◌, ℕ, ◌+◌, ◌≤◌, Bool, List, [], ◌∷◌, map, length, refl, ap, arith}
use Rattle.std.specs.List.{AllByRecursion}
use Rattle.std.specs.List.Sorted.{IsStrictlySortedBy}
use Rattle.std.specs.declared.cmp.Ordering.TheVariants.{Less}
use Rattle.std.specs.Ordering.{nat_cmp, ordering_then}
use Rattle.std.proofs.lemmas.Bool.Decides.{nat_tests}
use Rattle.dcql_answers.specs.declared.pick.Pick.{Pick}
use Rattle.dcql_answers.specs.declared.fits.Fit.{Fit}
use Rattle.dcql_answers.specs.Answer.{pick_cmp}
use Rattle.admitted_answers.specs.Admits.{IsPickList}
use Rattle.admitted_answers.proofs.OneQuery.{Valid}

All_to : {A : Type 0} (P Q : A → Type 0) → ((x : A) → P x → Q x) → (xs : List A) → AllByRecursion P xs
    → AllByRecursion Q xs
All_to P Q k [] h = tt
All_to P Q k (x ∷ xs) h = (k x h.0, All_to P Q k xs h.1)

rises : (a b c d : ℕ) → ordering_then (nat_cmp a c) (nat_cmp b d) ≡ Less → (a ≡ c → ⊥) → a + 1 ≤ c
rises a b c d h k = grind (arith, nat_tests)

risen : (a b c d : ℕ) → a + 1 ≤ c → ordering_then (nat_cmp a c) (nat_cmp b d) ≡ Less
risen a b c d h = grind (arith, nat_tests)

all_rise : (p : Pick) (ps : List Pick) → AllByRecursion (λ r. pick_cmp p r ≡ Less) ps
    → AllByRecursion (λ d. p.credential ≢ d) (map (λ r. r.credential) ps)
    → AllByRecursion (λ r. p.credential + 1 ≤ r.credential) ps
all_rise p [] less apart = tt
all_rise p (r ∷ ps) less apart = (
  rises p.credential p.set r.credential r.set less.0 apart.0,
  all_rise p ps less.1 apart.1,
)

all_apart : (p : Pick) (ps : List Pick) → AllByRecursion (λ r. p.credential + 1 ≤ r.credential) ps
    → AllByRecursion (λ d. p.credential ≢ d) (map (λ r. r.credential) ps)
all_apart p [] h = tt
all_apart p (r ∷ ps) h = let low = h.0 in ((λ e. omega arith), all_apart p ps h.1)

none_left : (p : Pick) (ps : List Pick) → length (p ∷ ps) ≤ 1 → ps ≡ []
none_left p [] h = refl
none_left p (r ∷ ps) h = absurd (omega arith)

fewer : (p : Pick) (ps : List Pick) → length (p ∷ ps) ≤ 1 → length ps ≤ 1
fewer p ps h = omega arith

only_one : (p : Pick) (ps : List Pick) → ps ≡ [] → length (p ∷ ps) ≤ 1
only_one p ps e = let f : length ps ≡ 0 = ap length e in omega arith

rest_of : (fits : List Fit) (i : ℕ) (m : Bool) (p : Pick) (ps : List Pick) → IsPickList fits i m (p ∷ ps)
    → IsPickList fits i m ps
unfolding IsStrictlySortedBy
rest_of fits i m p ps h = record {
  ascends = h.ascends.1;
  once = h.once.1;
  fit = h.fit.1;
  few =
      λ e. fewer p ps (h.few e);
}

valid_from : (fits : List Fit) (i : ℕ) (m : Bool) (c : ℕ) (ps : List Pick) → IsPickList fits i m ps
    → AllByRecursion (λ p. c ≤ p.credential) ps → Valid fits i m c ps
unfolding IsStrictlySortedBy
valid_from fits i m c [] h low = tt
valid_from fits i m c (p ∷ ps) h low = (
  (h.fit.0, low.0),
  (
    (λ e. none_left p ps (h.few e)),
    valid_from fits i m (p.credential + 1) ps
        (rest_of fits i m p ps h) (all_rise p ps h.ascends.0 h.once.0),
  ),
)

any_credential : (ps : List Pick) → AllByRecursion (λ p. 0 ≤ p.credential) ps
any_credential [] = tt
any_credential (p ∷ ps) = (omega arith, any_credential ps)

pub valid : (fits : List Fit) (i : ℕ) (m : Bool) (ps : List Pick) → IsPickList fits i m ps
    → Valid fits i m 0 ps
valid fits i m ps h = valid_from fits i m 0 ps h (any_credential ps)

pub no_picks : (fits : List Fit) (i : ℕ) (m : Bool) → IsPickList fits i m []
unfolding IsStrictlySortedBy
no_picks fits i m = record { ascends = tt; once = tt; fit = tt; few = λ e. omega arith }

spelled_from : (fits : List Fit) (i : ℕ) (m : Bool) (c : ℕ) (ps : List Pick) → Valid fits i m c ps
    → IsPickList fits i m ps × AllByRecursion (λ p. c ≤ p.credential) ps
unfolding IsStrictlySortedBy
spelled_from fits i m c [] h = (no_picks fits i m, tt)
spelled_from fits i m c (p ∷ ps) h =
    let rest = spelled_from fits i m (p.credential + 1) ps h.1.1 in
    let low : c ≤ p.credential = h.0.1 in (
      record {
        ascends = (
          All_to (λ r. p.credential + 1 ≤ r.credential) (λ r. pick_cmp p r ≡ Less)
              (λ r k. risen p.credential p.set r.credential r.set k) ps rest.1,
          rest.0.ascends,
        );
        once = (all_apart p ps rest.1, rest.0.once);
        fit = (h.0.0, rest.0.fit);
        few = λ e. only_one p ps (h.1.0 e);
      },
      (
        low,
        All_to (λ r. p.credential + 1 ≤ r.credential) (λ r. c ≤ r.credential) (λ r k. omega arith)
            ps rest.1,
      ),
    )

pub spelled : (fits : List Fit) (i : ℕ) (m : Bool) (ps : List Pick) → Valid fits i m 0 ps
    → IsPickList fits i m ps
spelled fits i m ps h = (spelled_from fits i m 0 ps h).0
