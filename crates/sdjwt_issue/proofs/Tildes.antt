-- No part of an SD-JWT has a `~`, so that its parts are had again by cutting there.
use Rattle.std.proofs.Common.{◌≡◌, ℕ, Bool, true, false, not, ◌==◌, List, [], ◌∷◌, ◌++◌, Option, Some}
use Rattle.std.proofs.Common.{None}
use Rattle.std.proofs.Common.{option_map, refl, sym, ap, ◌∙◌, subst, arith, inl, inr}
use Rattle.std.specs.Prelude.{is_some}
use Rattle.std.specs.Result.{result_ok}
use Rattle.std.specs.List.{AllByRecursion, list_all, slice_split, onto_first}
use Rattle.std.proofs.lemmas.Bool.{and_parts, cases_Bool}
use Rattle.std.proofs.lemmas.Bool.Decides.{nat_tests}
use Rattle.std.proofs.lemmas.List.Splits.{slice_split-cons_no, slice_split-cons_yes}
use Rattle.base_forms.specs.Rules.{rule, first, unless_broken}
use Rattle.base_forms.specs.Texts.{Utf8}
use Rattle.base_forms.specs.Url64.{is_url64, url64_rule, url64_bytes, grouped}
use Rattle.jws_envelope.specs.Compact.{dot_parts}
use Rattle.jws_envelope.specs.Envelope.{is_url64_text, parts_rule, jws_rule}
use Rattle.sdjwt_view.specs.Reading.{pieces, before_empty, parts_of}
use Rattle.sdjwt_issue.specs.Issued.{joined}

abbrev pub HasNoTilde : Utf8 → Type 0
HasNoTilde s = AllByRecursion (λ b. (b == 126) ≡ false) s

-- ---- base64url

no_tilde : (b : ℕ) → is_url64 b ≡ true → (b == 126) ≡ false
no_tilde b h = elim (cases_Bool (b == 126)) [
  | inl same ↦
      let is : b ≡ 126 = grind (arith, nat_tests) in
      let clash : false ≡ true = ap is_url64 (sym is) ∙ h in
      absurd (cc clash)
  | inr other ↦ other
]

none_in : (s : Utf8) → list_all is_url64 s ≡ true → HasNoTilde s
none_in [] h = tt
none_in (b ∷ s) h =
    let both = and_parts (is_url64 b) (list_all is_url64 s) h in (no_tilde b both.0, none_in s both.1)

alphabet_held : (s : Utf8) (b : Bool) → list_all is_url64 s ≡ b → url64_rule s ≡ None → b ≡ true
unfolding url64_rule rule
alphabet_held s true e h = refl
alphabet_held s false e h = let broken : Some 1 ≡ None = (rw e at h) in absurd (cc broken)

unbroken : (o : Option ℕ) (t : List ℕ) → is_some (result_ok (unless_broken o t)) ≡ true → o ≡ None
unbroken None t e = refl
unbroken (Some n) t e = absurd (cc e)

pub url64_untilded : (s : Utf8) → is_some (url64_bytes s) ≡ true → HasNoTilde s
url64_untilded s h =
    none_in s (alphabet_held s (list_all is_url64 s) refl (unbroken (url64_rule s) (grouped s) h))

-- ---- a message that breaks no rule

second_held : (a b : Bool) (r : Option ℕ) → first (rule 1 (not a) ∷ rule 2 (not b) ∷ r ∷ []) ≡ None → b ≡ true
unfolding rule
second_held true true r e = refl
second_held true false r e = absurd (cc e)
second_held false true r e = absurd (cc e)
second_held false false r e = absurd (cc e)

parts_url64 : (ps : List Utf8) → parts_rule ps ≡ None → list_all is_url64_text ps ≡ true
unfolding parts_rule
parts_url64 ps e = second_held _ (list_all is_url64_text ps) _ e

each_untilded : (ps : List Utf8) → list_all is_url64_text ps ≡ true → AllByRecursion HasNoTilde ps
each_untilded [] h = tt
each_untilded (p ∷ ps) h =
    let both = and_parts (is_url64_text p) (list_all is_url64_text ps) h in
    (url64_untilded p both.0, each_untilded ps both.1)

abbrev is_dot : ℕ → Bool
is_dot b = b == 46

after_dot : (b : ℕ) → is_dot b ≡ true → (b == 126) ≡ false
after_dot b e = let is : b ≡ 46 = grind (arith, nat_tests) in ap (λ x. x == 126) is

onto_untilded : (b : ℕ) (ps : List Utf8) → AllByRecursion HasNoTilde (onto_first b ps) → ((b == 126) ≡ false)
    × AllByRecursion HasNoTilde ps
onto_untilded b [] h = (h.0.0, tt)
onto_untilded b (p ∷ ps) h = (h.0.0, (h.0.1, h.1))

whole_untilded : (s : Utf8) → AllByRecursion HasNoTilde (slice_split is_dot s) → HasNoTilde s
whole_untilded [] h = tt
whole_untilded (b ∷ s) h = elim (cases_Bool (is_dot b)) [
  | inl dot ↦
      let parts = subst (AllByRecursion HasNoTilde) (slice_split-cons_yes is_dot b s dot) h in
      (after_dot b dot, whole_untilded s parts.1)
  | inr other ↦
      let parts = onto_untilded b (slice_split is_dot s)
      (subst (AllByRecursion HasNoTilde) (slice_split-cons_no is_dot b s other) h) in
      (parts.0, whole_untilded s parts.1)
]

pub message_untilded : (s : Utf8) → jws_rule s ≡ None → HasNoTilde s
message_untilded s e = whole_untilded s (each_untilded (dot_parts s) (parts_url64 (dot_parts s) e))

-- ---- the parts

cut_at : (s rest : Utf8) → HasNoTilde s → pieces (s ++ 126 ∷ rest) ≡ s ∷ pieces rest
cut_at [] rest h = slice_split-cons_yes (λ b. b == 126) 126 rest refl
cut_at (b ∷ s) rest h = slice_split-cons_no (λ x. x == 126) b (s ++ 126 ∷ rest) h.0
    ∙ ap (onto_first b) (cut_at s rest h.1)

joined_pieces : (ts : List Utf8) → AllByRecursion HasNoTilde ts → pieces (joined ts) ≡ ts ++ [] ∷ []
joined_pieces [] h = refl
joined_pieces (t ∷ ts) h = cut_at t (joined ts) h.0 ∙ ap (λ ps. t ∷ ps) (joined_pieces ts h.1)

more_pieces : (t : Utf8) (p : Utf8) (ps : List Utf8)
    → before_empty (t ∷ p ∷ ps) ≡ option_map (λ us. t ∷ us) (before_empty (p ∷ ps))
more_pieces [] p ps = refl
more_pieces (b ∷ t) p ps = refl

before_last : (ts : List Utf8) → before_empty (ts ++ [] ∷ []) ≡ Some ts
before_last [] = refl
before_last (t ∷ []) = more_pieces t [] []
before_last (t ∷ u ∷ ts) = more_pieces t u (ts ++ [] ∷ [])
    ∙ ap (option_map (λ us. t ∷ us)) (before_last (u ∷ ts))

pub parts_are : (jws : Utf8) (ts : List Utf8) → HasNoTilde jws → AllByRecursion HasNoTilde ts
    → parts_of (pieces (joined (jws ∷ ts))) ≡ Some (jws, ts)
parts_are jws ts a b = ap parts_of (joined_pieces (jws ∷ ts) (a, b))
    ∙ ap (option_map (λ texts. (jws, texts))) (before_last ts)
