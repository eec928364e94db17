-- The test of an answer tells what the definition says.
use Rattle.std.proofs.Common.{◌≡◌, ℕ, ◌+◌, ◌<◌, ◌≤◌, Bool, true, false, List, [], ◌∷◌, Option, Some, None}
use Rattle.std.proofs.Common.{refl, sym, ap, ap₂, ◌∙◌, subst, ◌⊎◌, inl, inr, ◌↔◌, arith}
use Rattle.std.specs.Prelude.{◌||◌}
use Rattle.std.specs.Bool.{Decides}
use Rattle.std.specs.declared.cmp.Ordering.TheVariants.{Less}
use Rattle.std.specs.Ordering.{nat_cmp, ordering_then}
use Rattle.std.proofs.lemmas.Bool.{leb-true, le-leb, cases_lt}
use Rattle.std.proofs.lemmas.Bool.Decides.{Decides-eqb, Decides-and, nat_tests}
use Rattle.dcql_answers.specs.declared.pick.Pick.{Pick}
use Rattle.dcql_answers.specs.declared.fits.Fit.{Fit}
use Rattle.dcql_query.specs.Query.{Credential, Query}
use Rattle.dcql_answers.specs.Answer.{pick_cmp, answered}
use Rattle.admitted_answers.specs.Admits.{IsFit, ArePickLists, bits_of}
use Rattle.answered_sets.specs.Answered.{IsAnswered}
use Rattle.admitted_answers.specs.Least.{IsLeastOf}
use Rattle.admitted_answers.specs.code.Tested.{is_same, is_empty, is_list, are_lists}
use Rattle.admitted_answers.proofs.OneQuery.{IsFrom, Valid, least_fit_is}
use Rattle.admitted_answers.proofs.Spelled.{valid, spelled}

same_pick : (p r : Pick) → r.credential ≡ p.credential → r.set ≡ p.set → r ≡ p
same_pick p r e f = let make : ℕ → ℕ → Pick = λ c s. record { credential = c; set = s } in ap₂ make e f

first_less : (a b c d : ℕ) → (a < c) ⊎ ((c ≡ a) × (b < d)) → ordering_then (nat_cmp a c) (nat_cmp b d) ≡ Less
first_less a b c d h = grind (arith, nat_tests)

found_is : (fits : List Fit) (i : ℕ) (p : Pick) (r : Option Pick)
    → IsLeastOf (λ x. IsFit fits i x × IsFrom p.credential p.set x) pick_cmp r
    → Decides (is_same p r) (IsFit fits i p)
found_is fits i p None none = ((λ h. absurd (cc h)), λ fit. absurd (none p (fit, inr (refl, omega arith))))
found_is fits i p (Some x) least = (there, back) where
  tells : Decides (is_same p (Some x)) ((x.credential ≡ p.credential) × (x.set ≡ p.set))
  tells = Decides-and _ _ (Decides-eqb x.credential p.credential) (Decides-eqb x.set p.set)

  there : is_same p (Some x) ≡ true → IsFit fits i p
  there h = let e = tells.0 h in subst (IsFit fits i) (same_pick p x e.0 e.1) least.is.0

  back : IsFit fits i p → is_same p (Some x) ≡ true
  back fit =
      let below : pick_cmp p x ≡ Less → ⊥ = least.none_below p (fit, inr (refl, omega arith)) in
      elim least.is.1 [
        | inl more ↦ absurd (below (first_less p.credential p.set x.credential x.set (inl more)))
        | inr same ↦ elim (cases_lt p.set x.set) [
          | inl less ↦ absurd (below (first_less p.credential p.set x.credential x.set (inr (same.0, less))))
          | inr not_less ↦ let high : p.set ≤ x.set = same.1 in tells.1 (same.0, omega arith)
        ]
      ]

one_at_most : (m : Bool) (ps : List Pick) → Decides (m || is_empty ps) (m ≡ false → ps ≡ [])
one_at_most true ps = ((λ h e. absurd (cc e)), λ h. refl)
one_at_most false [] = ((λ h e. refl), λ h. refl)
one_at_most false (p ∷ ps) = ((λ h. absurd (cc h)), λ h. absurd (let e : p ∷ ps ≡ [] = h refl in cc e))

list_is : (fits : List Fit) → (i : ℕ) (m : Bool) (c : ℕ) (ps : List Pick)
    → Decides (is_list fits i m c ps) (Valid fits i m c ps)
list_is fits i m c [] = ((λ h. tt), λ h. refl)
list_is fits i m c (p ∷ ps) =
    let all = Decides-and _ _ (found_is fits i p _ (least_fit_is fits i p.credential p.set))
    (Decides-and _ _ (leb-true c p.credential, le-leb c p.credential)
    (Decides-and _ _ (one_at_most m ps) (list_is fits i m (p.credential + 1) ps))) in (
      (λ h. let a = all.0 h in ((a.0, a.1.0), (a.1.1.0, a.1.1.1))),
      λ v. all.1
          (v.0.0, (v.0.1, (v.1.0, v.1.1))),
    )

lists_are : (fits : List Fit) → (i : ℕ) (ms : List Credential) (a : List (List Pick))
    → Decides (are_lists fits i ms a) (ArePickLists fits i ms a)
lists_are fits i [] [] = ((λ h. tt), λ h. refl)
lists_are fits i [] (ps ∷ a) = ((λ h. absurd (cc h)), λ h. absurd h)
lists_are fits i (m ∷ ms) [] = ((λ h. absurd (cc h)), λ h. absurd h)
lists_are fits i (m ∷ ms) (ps ∷ a) =
    let both = Decides-and _ _ (list_is fits i m.multiple 0 ps) (lists_are fits (i + 1) ms a) in (
      (λ h. let b = both.0 h in (spelled fits i m.multiple ps b.0, b.1)),
      λ h. both.1
          (valid fits i m.multiple ps h.0, h.1),
    )

-- ---- at the values that the code reads

pub right_lists : (q : Query) (fits : List Fit) (ms : List Credential) (a b : List (List Pick)) (t : Bool)
    → ms ≡ q.credentials → b ≡ a → t ≡ are_lists fits 0 ms b
    → (t ≡ true) ↔ ArePickLists fits 0 q.credentials a
right_lists q fits ms a b t e g h =
    let is : t ≡ are_lists fits 0 q.credentials a = h ∙ ap₂ (are_lists fits 0) e g in
    let d = lists_are fits 0 q.credentials a in
    ((λ x. d.0 (sym is ∙ x)), λ x. is ∙ d.1 x)

pub right_set : (q : Query) (a b : List (List Pick)) (s : ℕ) (t u : Bool) → b ≡ a → s ≡ bits_of (answered b)
    → t ≡ u → ((u ≡ true) ↔ IsAnswered q s) → (t ≡ true) ↔ IsAnswered q (bits_of (answered a))
right_set q a b s t u e f g tells =
    let same : s ≡ bits_of (answered a) = f ∙ ap (λ l. bits_of (answered l)) e in (
      (λ h. subst (IsAnswered q) same (tells.0 (sym g ∙ h))),
      λ h. g
          ∙ tells.1 (subst (IsAnswered q) (sym same) h),
    )
