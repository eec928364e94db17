-- An answer is admitted or not, and a text is the token of an admitted answer or breaks a rule.
use Rattle.std.proofs.Common.{◌≡◌, ℕ, ◌-◌, ◌^◌, ◌<◌, ◌≤◌, ◌⊎◌, inl, inr, Bool, true, false, List, [], ◌∷◌}
use Rattle.std.proofs.Common.{length, Option, Some, None, refl, sym, subst, ◌∙◌, arith, if◌then◌else◌}
use Rattle.std.specs.Prelude.{bit_or, bytes_eq}
use Rattle.std.specs.Bool.{Decides}
use Rattle.std.specs.List.{AllByRecursion}
use Rattle.std.specs.Int.Bits.{or_zero_l}
use Rattle.std.proofs.lemmas.Bool.{cases_eq, cases_lt}
use Rattle.std.proofs.lemmas.Slice.Eq.{bytes_eq-Decides}
use Rattle.dcql_answers.specs.declared.pick.Pick.{Pick}
use Rattle.dcql_answers.specs.declared.fits.Fit.{Fit}
use Rattle.dcql_answers.specs.Answer.{answered}
use Rattle.dcql_query.specs.Query.{Credential, CredentialSet, Query}
use Rattle.dcql_query.specs.WellFormed.{IsQuery}
use Rattle.answered_sets.specs.Answered.{IsIn, IsChoice, union, IsUnion, IsWanted, IsAnswered}
use Rattle.answered_sets.proofs.Unions.{or_assoc}
use Rattle.admitted_answers.specs.Admits.{ArePickLists, Admits, bits_of}
use Rattle.admitted_answers.specs.code.Tested.{are_lists}
use Rattle.admitted_answers.proofs.Tests.{right_lists}
use Rattle.option_list.specs.Token.{Entry, entries_text, token_of}
use Rattle.option_list.specs.Form.{IsSmall, IsEntry, IsEach}
use Rattle.option_list.specs.Rules.{HasEntries, HasSmallPicks, Breaks}
use Rattle.option_list.specs.code.Entries.{are_known, picks_named, lists_named}
use Rattle.option_list.proofs.Named.{none_answers}
use Rattle.option_list.proofs.Readers.{Reading, entries}

abbrev Decision : Type 0 → Type 0
Decision P = P ⊎ (P → ⊥)

by_test : {P : Type 0} (t : Bool) → Decides t P → Decision P
by_test true d = inl (d.0 refl)
by_test false d = inr (λ p. let f = d.1 p in cc f)

both : {P Q : Type 0} → Decision P → Decision Q → Decision (P × Q)
both (inl p) (inl q) = inl (p, q)
both (inl p) (inr n) = inr (λ h. n h.1)
both (inr n) d = inr (λ h. n h.0)

is_positive : (n : ℕ) → Decision (0 < n)
is_positive n = by (cases_lt 0 n) where
  by : (0 < n) ⊎ (n ≤ 0) → Decision (0 < n)
  by (inl some) = inl some
  by (inr none) = inr (λ some. omega (arith, none, some))

is_false : (t : Bool) → Decision (t ≡ false)
is_false true = inr (λ e. cc e)
is_false false = inl refl

-- ---- the sets that may be answered together

-- one of a list has a property
one_among : {A : Type 0} (P : A → Type 0) → ((x : A) → Decision (P x)) → (xs : List A)
    → Decision ((x : A) × IsIn x xs × P x)
one_among P decide [] = inr (λ h. h.1)
one_among {A} P decide (x ∷ xs) = by (decide x) (one_among P decide xs) where
  by : Decision (P x) → Decision ((y : A) × IsIn y xs × P y) → Decision ((y : A) × IsIn y (x ∷ xs) × P y)
  by (inl p) rest = inl (x, inl refl, p)
  by (inr n) (inl (y, later, p)) = inl (y, inr later, p)
  by (inr n) (inr none) = inr neither where
    neither : (y : A) × IsIn y (x ∷ xs) × P y → ⊥
    neither (y, inl same, p) = n (subst P same p)
    neither (y, inr later, p) = none (y, later, p)

-- the union of b with a choice is a
abbrev Joined : List CredentialSet → ℕ → ℕ → Type 0
Joined ss b a = (os : List (Option ℕ)) × IsChoice ss os × (bit_or b (union os) ≡ a)

is_joined : (ss : List CredentialSet) (b a : ℕ) → Decision (Joined ss b a)
is_joined [] b a = by (cases_eq (bit_or b 0) a) where
  by : Decision (bit_or b 0 ≡ a) → Decision (Joined [] b a)
  by (inl e) = inl ([], tt, e)
  by (inr n) = inr none where
    none : Joined [] b a → ⊥
    none ([], choice, e) = n e
    none (o ∷ os, choice, e) = choice
is_joined (s ∷ ss) b a =
    by (one_among (λ o. Joined ss (bit_or b o) a) (λ o. is_joined ss (bit_or b o) a) s.options)
    (both (is_false s.required) (is_joined ss b a)) where
      by : Decision ((o : ℕ) × IsIn o s.options × Joined ss (bit_or b o) a)
          → Decision ((s.required ≡ false) × Joined ss b a) → Decision (Joined (s ∷ ss) b a)
      by (inl (o, among, (os, choice, e))) free =
          inl (Some o ∷ os, (among, choice), sym (or_assoc b o (union os)) ∙ e)
      by (inr n) (inl (free, (os, choice, e))) = inl (None ∷ os, (free, choice), e)
      by (inr n) (inr m) = inr none where
        none : Joined (s ∷ ss) b a → ⊥
        none ([], choice, e) = choice
        none (Some o ∷ os, choice, e) = n (o, choice.0, (os, choice.1, or_assoc b o (union os) ∙ e))
        none (None ∷ os, choice, e) = m (choice.0, (os, choice.1, e))

is_union : (ss : List CredentialSet) (a : ℕ) → Decision (IsUnion ss a)
is_union ss a = by (is_joined ss 0 a) where
  by : Decision (Joined ss 0 a) → Decision (IsUnion ss a)
  by (inl (os, choice, e)) = inl (os, choice, sym (or_zero_l (union os)) ∙ e)
  by (inr n) = inr none where
    none : IsUnion ss a → ⊥
    none (os, choice, e) = n (os, choice, or_zero_l (union os) ∙ e)

is_wanted : (n : ℕ) (sets : Option (List CredentialSet)) (a : ℕ) → Decision (IsWanted n sets a)
is_wanted n None a = cases_eq a (2 ^ n - 1)
is_wanted n (Some ss) a = is_union ss a

is_admitted : (q : Query) (fits : List Fit) (a : List (List Pick)) → Decision (Admits q fits a)
is_admitted q fits a =
    by (by_test (are_lists fits 0 q.credentials a) (right_lists q fits q.credentials a a _ refl refl refl))
    (both (is_positive (bits_of (answered a)))
    (is_wanted (length q.credentials) q.sets (bits_of (answered a)))) where
      by : Decision (ArePickLists fits 0 q.credentials a) → Decision (IsAnswered q (bits_of (answered a)))
          → Decision (Admits q fits a)
      by (inl lists) (inl set) = inl (record { lists = lists; set = set })
      by (inl lists) (inr n) = inr (λ h. n h.set)
      by (inr n) d = inr (λ h. n h.lists)

-- ---- the answer that a text names

small_named : (es : List Entry) (id : List ℕ) → AllByRecursion IsEntry es
    → AllByRecursion IsSmall (picks_named es id)
small_named [] id h = tt
small_named (e ∷ es) id h = by (bytes_eq id e.id) (small_named es id h.1) where
  by : (t : Bool) → AllByRecursion IsSmall (picks_named es id)
      → AllByRecursion IsSmall (if t then e.picks else picks_named es id)
  by true rest = h.0.1.1
  by false rest = rest

pub small_lists : (qs : List Credential) (es : List Entry) → AllByRecursion IsEntry es
    → HasSmallPicks (lists_named qs es)
small_lists [] es h = tt
small_lists (q ∷ qs) es h = (small_named es q.id h, small_lists qs es h)

abbrev Named : Query → List Fit → List ℕ → Type 0
Named q fits text = (a : List (List Pick)) × Admits q fits a × HasSmallPicks a × (token_of q a ≡ text)

abbrev Broken : Query → List Fit → List ℕ → Type 0
Broken q fits text = (n : ℕ) × Breaks q fits text n

pub is_decided : (q : Query) (fits : List Fit) (text : List ℕ) → IsQuery q
    → ((a : List (List Pick)) × Admits q fits a × HasSmallPicks a × (token_of q a ≡ text))
    ⊎ ((n : ℕ) × Breaks q fits text n)
is_decided q fits text well = by (entries text) where
  of_answer : (es : List Entry) → HasEntries text es → are_known q.credentials es ≡ true
      → Decision (Admits q fits (lists_named q.credentials es)
      × (token_of q (lists_named q.credentials es) ≡ text))
      → Named q fits text ⊎ Broken q fits text
  of_answer es has known (inl (admitted, is)) =
      inl (lists_named q.credentials es, admitted, small_lists q.credentials es has.0.1, is)
  of_answer es has known (inr n) =
      inr (
        3,
        inr (inr (
          refl,
          (
            (es, has, known),
            none_answers q fits text es (lists_named q.credentials es) well has refl (λ a is. n (a, is)),
          ),
        )),
      )

  of_entries : (es : List Entry) → HasEntries text es → (t : Bool) → are_known q.credentials es ≡ t
      → Named q fits text ⊎ Broken q fits text
  of_entries es has false unknown = inr (2, inr (inl (refl, (es, has, unknown))))
  of_entries es has true known =
      let a = lists_named q.credentials es in
      of_answer es has known
      (both (is_admitted q fits a)
      (by_test (bytes_eq (token_of q a) text) (bytes_eq-Decides (token_of q a) text)))

  by : Reading (IsEach IsEntry) entries_text text → Named q fits text ⊎ Broken q fits text
  by (None, none) = inr (1, inl (refl, λ es has. none es has.0 has.1))
  by (Some es, has) = of_entries es has (are_known q.credentials es) refl
