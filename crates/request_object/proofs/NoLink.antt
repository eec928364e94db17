-- A signed message has no question mark, so that it is no link.
use Rattle.std.proofs.Common.{◌≡◌, ℕ, ◌+◌, Bool, true, false, not, List, [], ◌∷◌, length, Option, Some}
use Rattle.std.proofs.Common.{None, refl, sym, ap, ◌∙◌, subst, arith, inl, inr}
use Rattle.std.specs.Prelude.{is_some, nat_lt}
use Rattle.std.specs.Result.{result_ok}
use Rattle.std.specs.List.{AllByRecursion, list_all, slice_split, onto_first, position_or_len}
use Rattle.std.proofs.lemmas.Bool.{and_parts, cases_Bool}
use Rattle.std.proofs.lemmas.Bool.Decides.{nat_tests}
use Rattle.std.proofs.lemmas.List.Splits.{slice_split-cons_no, slice_split-cons_yes}
use Rattle.base_forms.specs.Rules.{rule, first, unless_broken}
use Rattle.base_forms.specs.Url64.{is_url64, url64_rule, grouped}
use Rattle.jws_envelope.specs.Compact.{Text, dot_parts}
use Rattle.jws_envelope.specs.Envelope.{is_url64_text, parts_rule, jws_rule}
use Rattle.jws_envelope.proofs.Dots.{is_dot}
use Rattle.request_links.specs.Link.{is_question_mark, is_link}

abbrev HasNoMark : Text → Type 0
HasNoMark s = AllByRecursion (λ b. is_question_mark b ≡ false) s

-- ---- base64url

no_mark : (b : ℕ) → is_url64 b ≡ true → is_question_mark b ≡ false
no_mark b h = elim (cases_Bool (is_question_mark b)) [
  | inl same ↦
      let is : b ≡ 63 = grind (arith, nat_tests) in
      let clash : false ≡ true = ap is_url64 (sym is) ∙ h in
      absurd (cc clash)
  | inr other ↦ other
]

none_in : (s : Text) → list_all is_url64 s ≡ true → HasNoMark s
none_in [] h = tt
none_in (b ∷ s) h =
    let both = and_parts (is_url64 b) (list_all is_url64 s) h in (no_mark b both.0, none_in s both.1)

alphabet_held : (s : Text) (b : Bool) → list_all is_url64 s ≡ b → url64_rule s ≡ None → b ≡ true
unfolding url64_rule rule
alphabet_held s true e h = refl
alphabet_held s false e h = let broken : Some 1 ≡ None = (rw e at h) in absurd (cc broken)

unbroken : (o : Option ℕ) (t : List ℕ) → is_some (result_ok (unless_broken o t)) ≡ true → o ≡ None
unbroken None t e = refl
unbroken (Some n) t e = absurd (cc e)

part_unmarked : (s : Text) → is_url64_text s ≡ true → HasNoMark s
part_unmarked s h =
    none_in s (alphabet_held s (list_all is_url64 s) refl (unbroken (url64_rule s) (grouped s) h))

-- ---- a message that breaks no rule

second_held : (a b : Bool) (r : Option ℕ) → first (rule 1 (not a) ∷ rule 2 (not b) ∷ r ∷ []) ≡ None → b ≡ true
unfolding rule
second_held true true r e = refl
second_held true false r e = absurd (cc e)
second_held false true r e = absurd (cc e)
second_held false false r e = absurd (cc e)

parts_url64 : (ps : List Text) → parts_rule ps ≡ None → list_all is_url64_text ps ≡ true
unfolding parts_rule
parts_url64 ps e = second_held _ (list_all is_url64_text ps) _ e

each_unmarked : (ps : List Text) → list_all is_url64_text ps ≡ true → AllByRecursion HasNoMark ps
each_unmarked [] h = tt
each_unmarked (p ∷ ps) h =
    let both = and_parts (is_url64_text p) (list_all is_url64_text ps) h in
    (part_unmarked p both.0, each_unmarked ps both.1)

dot_unmarked : (b : ℕ) → is_dot b ≡ true → is_question_mark b ≡ false
dot_unmarked b e = let is : b ≡ 46 = grind (arith, nat_tests) in ap is_question_mark is

onto_unmarked : (b : ℕ) (ps : List Text) → AllByRecursion HasNoMark (onto_first b ps)
    → (is_question_mark b ≡ false) × AllByRecursion HasNoMark ps
onto_unmarked b [] h = (h.0.0, tt)
onto_unmarked b (p ∷ ps) h = (h.0.0, (h.0.1, h.1))

whole_unmarked : (s : Text) → AllByRecursion HasNoMark (slice_split is_dot s) → HasNoMark s
whole_unmarked [] h = tt
whole_unmarked (b ∷ s) h = elim (cases_Bool (is_dot b)) [
  | inl dot ↦
      let parts = subst (AllByRecursion HasNoMark) (slice_split-cons_yes is_dot b s dot) h in
      (dot_unmarked b dot, whole_unmarked s parts.1)
  | inr other ↦
      let parts = onto_unmarked b (slice_split is_dot s)
      (subst (AllByRecursion HasNoMark) (slice_split-cons_no is_dot b s other) h) in
      (parts.0, whole_unmarked s parts.1)
]

-- ---- no link

past_all : (s : Text) → HasNoMark s → position_or_len is_question_mark s ≡ length s
past_all [] h = refl
past_all (b ∷ s) h =
    let rest : position_or_len is_question_mark s ≡ length s = past_all s h.1 in
    let e : position_or_len is_question_mark (b ∷ s) ≡ position_or_len is_question_mark s + 1 =
    rw h.0 (omega arith) in
    omega arith

not_below : (n : ℕ) → nat_lt n n ≡ false
not_below n = grind (arith, nat_tests)

pub message_is_no_link : (s : Text) → jws_rule s ≡ None → is_link s ≡ false
message_is_no_link s e =
    ap (λ n. nat_lt n (length s))
    (past_all s (whole_unmarked s (each_unmarked (dot_parts s) (parts_url64 (dot_parts s) e))))
    ∙ not_below (length s)
