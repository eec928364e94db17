-- That a text is the token of one answer at most, or is refused with one number at most.
use Rattle.std.proofs.Common.{◌≡◌, ℕ, inl, inr, List, refl, sym, ap, ◌∙◌}
use Rattle.dcql_answers.specs.declared.pick.Pick.{Pick}
use Rattle.dcql_answers.specs.declared.fits.Fit.{Fit}
use Rattle.dcql_query.specs.Query.{Query}
use Rattle.dcql_query.specs.WellFormed.{IsQuery}
use Rattle.admitted_answers.specs.Admits.{Admits}
use Rattle.admitted_answers.proofs.NextAnswer.{length_admitted}
use Rattle.option_list.specs.Token.{token_of, entries_of}
use Rattle.option_list.specs.Rules.{HasSmallPicks, HasUnknownId, HasKnownIds, Breaks}
use Rattle.option_list.specs.code.Entries.{are_known}
use Rattle.option_list.proofs.Named.{has_entries, one_reading, unknown_read, answer_read, named_back}

pub names_no_rule : (q : Query) (fits : List Fit) (text : List ℕ) (n : ℕ) (a : List (List Pick)) → IsQuery q
    → Admits q fits a → HasSmallPicks a → token_of q a ≡ text → Breaks q fits text n → ⊥
names_no_rule q fits text n a well admitted small is (inl h) =
    h.1 (entries_of q.credentials a) (has_entries q fits a text well admitted small is)
names_no_rule q fits text n a well admitted small is (inr (inl h)) =
    let (es, has, unknown) = h.1 in
    unknown_read q fits text es well has unknown a admitted small is
names_no_rule q fits text n a well admitted small is (inr (inr h)) = h.1.1 a admitted small is

known_unknown : (q : Query) (text : List ℕ) → HasKnownIds q text → HasUnknownId q text → ⊥
known_unknown q text (es, has, known) (fs, reads, unknown) =
    let same = ap (are_known q.credentials) (one_reading text es fs has reads) in
    cc (same, known, unknown)

pub one_rule : (q : Query) (fits : List Fit) (text : List ℕ) (n m : ℕ) → Breaks q fits text n
    → Breaks q fits text m → n ≡ m
one_rule q fits text n m (inl h) (inl k) = h.0 ∙ sym k.0
one_rule q fits text n m (inl h) (inr (inl k)) = absurd (h.1 k.1.0 k.1.1)
one_rule q fits text n m (inl h) (inr (inr k)) = absurd (h.1 k.1.0.0 k.1.0.1)
one_rule q fits text n m (inr (inl h)) (inl k) = absurd (k.1 h.1.0 h.1.1)
one_rule q fits text n m (inr (inl h)) (inr (inl k)) = h.0 ∙ sym k.0
one_rule q fits text n m (inr (inl h)) (inr (inr k)) = absurd (known_unknown q text k.1.0 h.1)
one_rule q fits text n m (inr (inr h)) (inl k) = absurd (k.1 h.1.0.0 h.1.0.1)
one_rule q fits text n m (inr (inr h)) (inr (inl k)) = absurd (known_unknown q text h.1.0 k.1)
one_rule q fits text n m (inr (inr h)) (inr (inr k)) = h.0 ∙ sym k.0

pub one_answer : (q : Query) (fits : List Fit) (a b : List (List Pick)) → IsQuery q → Admits q fits a
    → Admits q fits b → HasSmallPicks a → HasSmallPicks b → token_of q a ≡ token_of q b → a ≡ b
one_answer q fits a b well h k small low e =
    let text = token_of q b in
    let long = length_admitted fits 0 q.credentials b k.lists in
    sym (answer_read q fits text (entries_of q.credentials b) b well
    (has_entries q fits b text well k low refl) (sym (named_back q.credentials b well.ids_differ long))
    a h small e)
