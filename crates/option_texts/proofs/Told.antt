-- What is told of the answers of a page.
use Rattle.std.proofs.Common.{◌≡◌, ℕ, suc, ◌+◌, List, [], ◌∷◌, Option, Some, None, Ok, Err, true, length}
use Rattle.std.proofs.Common.{slice_get, inl, inr, nat_lt, IsSome, IsSomeAnd, IsOkAnd, Contains}
use Rattle.std.proofs.Common.{if◌then◌else◌, refl, sym, ap, subst, arith}
use Rattle.std.specs.List.{AllByRecursion}
use Rattle.std.specs.Option.{option_and_then}
use Rattle.answered_sets.specs.Answered.{IsIn}
use Rattle.admitted_answers.specs.Admits as admitted
use Rattle.admitted_answers.specs.Admits.{ArePickLists}
use Rattle.admitted_answers.proofs.NextAnswer.{length_admitted}
use Rattle.dcql_answers.specs.declared.fits.Fit.{Fit}
use Rattle.dcql_answers.specs.declared.pick.Pick.{Pick}
use Rattle.dcql_query.specs.Query.{Query}
use Rattle.dcql_query.specs.Query.{Credential as CredentialQuery}
use Rattle.fit_table.specs.Fit.{IsFit, FitsUnder}
use Rattle.fit_table.specs.Slot.{Stands}
use Rattle.key_device.specs.Calls.{Held}
use Rattle.option_texts.specs.Laws.{AdmittedArePicked, ArePicked, PagesHaveLists}
use Rattle.option_texts.specs.Lines.{picked, read_in}

pub pages_have_lists : PagesHaveLists
pages_have_lists query fits after [] next = tt
pages_have_lists query fits after (a ∷ answers) next = (
  length_admitted fits 0 query.credentials a next.0.is.0.lists,
  pages_have_lists query fits (Some a) answers next.1,
)

contained : {A : Type 0} (x : A) (ys : List A) → IsIn x ys → Contains ys x
contained x [] is = absurd is
contained x (y ∷ ys) (inl is) = (0, omega arith, sym is)
contained x (y ∷ ys) (inr is) =
    let rest = contained x ys is in
    (suc rest.0, omega arith, rest.2)

slot_told : (q : CredentialQuery) (held : Held) (now : ℕ) (set : ℕ) (slot : Option Stands)
    → IsSomeAnd slot (λ s. IsOkAnd s (λ c. FitsUnder q set held now c))
    → IsSome (if nat_lt set (length q.sets) then option_and_then read_in slot else None)
slot_told q held now set None fits = absurd fits
slot_told q held now set (Some (Err rule)) fits = absurd fits
slot_told q held now set (Some (Ok c)) fits =
    let within : nat_lt set (length q.sets) ≡ true = grind (arith, fits.set) in
    rw within refl

pick_told : (query : Query) (slots : List Stands) (held : Held) (now : ℕ) (i : ℕ) (q : CredentialQuery)
    (p : Pick)
    → slice_get query.credentials i ≡ Some q
    → IsFit query slots held now (record { query = i; credential = p.credential; set = p.set })
    → IsSome (picked slots q p)
pick_told query slots held now i q p here fits =
    slot_told q held now p.set (slice_get slots p.credential)
    (subst (λ o. IsSomeAnd o (λ asked. IsSomeAnd (slice_get slots p.credential) (λ s.
    IsOkAnd s (λ c. FitsUnder asked p.set held now c)))) here fits)

module _ (query : Query) (slots : List Stands) (held : Held) (now : ℕ) (fits : List Fit)
    (is : (fit : Fit) → Contains fits fit → IsFit query slots held now fit) where
  picks_told : (i : ℕ) (q : CredentialQuery) → slice_get query.credentials i ≡ Some q → (ps : List Pick)
      → AllByRecursion (admitted.IsFit fits i) ps → AllByRecursion (λ p. IsSome (picked slots q p)) ps
  picks_told i q here [] all = tt
  picks_told i q here (p ∷ ps) all =
      let one = pick_told query slots held now i q p here (is _ (contained _ fits all.0)) in
      (one, picks_told i q here ps all.1)

  -- the first list is for the credential query at place i
  lists_told : (i : ℕ) (qs : List CredentialQuery) (a : List (List Pick))
      → ((k : ℕ) → slice_get query.credentials (i + k) ≡ slice_get qs k)
      → ArePickLists fits i qs a → ArePicked slots qs a
  lists_told i [] a at lists = tt
  lists_told i (q ∷ qs) [] at lists = tt
  lists_told i (q ∷ qs) (ps ∷ a) at lists =
      let first : i + 0 ≡ i = omega arith in
      let here = subst (λ n. slice_get query.credentials n ≡ Some q) first (at 0) in
      let later = λ (k : ℕ). let next : i + suc k ≡ i + 1 + k = omega arith in
      subst (λ n. slice_get query.credentials n ≡ slice_get qs k) next (at (suc k)) in
      (picks_told i q here ps lists.0.fit, lists_told (i + 1) qs a later lists.1)

pub admitted_are_picked : AdmittedArePicked
admitted_are_picked query slots held now fits a is admits =
    lists_told query slots held now fits is 0 query.credentials a
    (λ k. let all : 0 + k ≡ k = omega arith in ap (slice_get query.credentials) all) admits.lists
