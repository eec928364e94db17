-- The entries of an answer, and the answer again from them.
use Rattle.std.proofs.Common.{◌≡◌, ℕ, ◌+◌, ◌<◌, Bool, true, false, not, List, [], ◌∷◌, ◌++◌, map}
use Rattle.std.proofs.Common.{length, refl}
use Rattle.std.proofs.Common.{sym, ap, ap₂, ◌∙◌, arith, subst, append_assoc, if◌then◌else◌, Some, None}
use Rattle.std.specs.Prelude.{is_some, bytes_eq}
use Rattle.std.specs.List.{AllByRecursion}
use Rattle.std.proofs.lemmas.Slice.Eq.{bytes_eq-Decides}
use Rattle.std.proofs.lemmas.Bool.{and_parts, and_from}
use Rattle.base_forms.specs.Texts.{is_among, differ}
use Rattle.base_forms.proofs.Differing.{bytes_eq-flip}
use Rattle.claim_path.proofs.Valid.{neither}
use Rattle.credential_query.specs.WellFormed.{IsCredential}
use Rattle.credential_query.proofs.WellFormed.{not_true}
use Rattle.dcql_answers.specs.declared.pick.Pick.{Pick}
use Rattle.dcql_answers.specs.declared.fits.Fit.{Fit}
use Rattle.dcql_answers.specs.Answer.{answered}
use Rattle.dcql_query.specs.Query.{Credential, Query, query_from}
use Rattle.dcql_query.specs.WellFormed.{IsQuery}
use Rattle.admitted_answers.specs.Admits.{bits_of, Admits}
use Rattle.admitted_answers.proofs.NextAnswer.{length_admitted}
use Rattle.option_list.specs.Token.{Entry, entry_text, entries_text, entries_of, token_of}
use Rattle.option_list.specs.Form.{IsEach, IsEntry, Reads}
use Rattle.option_list.specs.Rules.{HasEntries, HasSmallPicks, IsOfNoAnswer}
use Rattle.option_list.specs.code.Entries.{are_known, picks_named, lists_named}
use Rattle.option_list.proofs.Lacks.{entry_lacks}
use Rattle.option_list.proofs.Lists.{joined_same}
use Rattle.option_list.proofs.Parts.{entry_same}

-- ---- the answer again

is_other : (x y : List ℕ) → bytes_eq y x ≡ false → bytes_eq x y ≡ false
is_other x y h = bytes_eq-flip x y ∙ h

passed_over : (id x : List ℕ) (ps : List Pick) (es : List Entry) → bytes_eq id x ≡ false
    → picks_named (record { id = x; picks = ps } ∷ es) id ≡ picks_named es id
passed_over id x ps es h = ap (λ t. if t then ps else picks_named es id) h

-- an id that none of the credential queries has
absent : (id : List ℕ) (qs : List Credential) (a : List (List Pick))
    → is_among id (map (λ q. q.id) qs) ≡ false
    → picks_named (entries_of qs a) id ≡ []
absent id [] a h = refl
absent id (q ∷ qs) [] h = refl
absent id (q ∷ qs) ([] ∷ a) h = absent id qs a (neither (bytes_eq q.id id) _ h).1
absent id (q ∷ qs) ((p ∷ ps) ∷ a) h =
    let both = neither (bytes_eq q.id id) (is_among id (map (λ q. q.id) qs)) h in
    passed_over id q.id (p ∷ ps) (entries_of qs a) (is_other id q.id both.0) ∙ absent id qs a both.1

-- an entry with an id that none of the credential queries has
skipped : (id : List ℕ) (ps : List Pick) (qs : List Credential) (es : List Entry)
    → is_among id (map (λ q. q.id) qs) ≡ false
    → lists_named qs (record { id = id; picks = ps } ∷ es) ≡ lists_named qs es
skipped id ps [] es h = refl
skipped id ps (q ∷ qs) es h =
    let both = neither (bytes_eq q.id id) (is_among id (map (λ q. q.id) qs)) h in
    ap₂ (λ x xs. x ∷ xs) (passed_over q.id id ps es both.0) (skipped id ps qs es both.1)

itself : (id : List ℕ) → bytes_eq id id ≡ true
itself id = (bytes_eq-Decides id id).1 refl

pub named_back : (qs : List Credential) (a : List (List Pick)) → differ (map (λ q. q.id) qs) ≡ true
    → length a ≡ length qs → lists_named qs (entries_of qs a) ≡ a
named_back [] [] h e = refl
named_back [] (ps ∷ a) h e = absurd (omega arith)
named_back (q ∷ qs) [] h e = absurd (omega arith)
named_back (q ∷ qs) ([] ∷ a) h e =
    let both = and_parts (not (is_among q.id (map (λ q. q.id) qs))) (differ (map (λ q. q.id) qs)) h in
    ap₂ (λ x xs. x ∷ xs) (absent q.id qs a (not_true _ both.0)) (named_back qs a both.1 (omega arith))
named_back (q ∷ qs) ((p ∷ ps) ∷ a) h e =
    let both = and_parts (not (is_among q.id (map (λ q. q.id) qs))) (differ (map (λ q. q.id) qs)) h in
    let others = entries_of qs a in
    ap₂ (λ x xs. x ∷ xs) (ap (λ t. if t then p ∷ ps else picks_named others q.id) (itself q.id))
    (skipped q.id (p ∷ ps) qs others (not_true _ both.0) ∙ named_back qs a both.1 (omega arith))

-- ---- its ids are known

found_from : (q : Credential) (pre qs : List Credential) (n : ℕ)
    → is_some (query_from n q.id (pre ++ q ∷ qs)) ≡ true
found_from q [] qs n = ap (λ t. is_some (if t then Some n else query_from (n + 1) q.id qs)) (itself q.id)
found_from q (p ∷ pre) qs n = either (bytes_eq q.id p.id) (found_from q pre qs (n + 1)) where
  either : (t : Bool) → is_some (query_from (n + 1) q.id (pre ++ q ∷ qs)) ≡ true
      → is_some (if t then Some n else query_from (n + 1) q.id (pre ++ q ∷ qs)) ≡ true
  either true h = refl
  either false h = h

pub known_from : (pre qs : List Credential) (a : List (List Pick))
    → are_known (pre ++ qs) (entries_of qs a) ≡ true
known_from pre [] a = refl
known_from pre (q ∷ qs) [] = refl
known_from pre (q ∷ qs) (ps ∷ a) = by ps (subst (λ all. are_known all (entries_of qs a) ≡ true)
    (append_assoc pre (q ∷ []) qs) (known_from (pre ++ q ∷ []) qs a)) where
      by : (ps : List Pick) → are_known (pre ++ q ∷ qs) (entries_of qs a) ≡ true
          → are_known (pre ++ q ∷ qs) (entries_of (q ∷ qs) (ps ∷ a)) ≡ true
      by [] rest = rest
      by (p ∷ ps) rest = and_from _ _ (found_from q pre qs 0) rest

-- ---- they are of the form

each_entry : (qs : List Credential) (a : List (List Pick)) → AllByRecursion IsCredential qs → HasSmallPicks a
    → AllByRecursion IsEntry (entries_of qs a)
each_entry [] a good small = tt
each_entry (q ∷ qs) [] good small = tt
each_entry (q ∷ qs) ([] ∷ a) good small = each_entry qs a good.1 small.1
each_entry (q ∷ qs) ((p ∷ ps) ∷ a) good small =
    ((good.0.id, (omega arith, small.0)), each_entry qs a good.1 small.1)

some_entry : (qs : List Credential) (a : List (List Pick)) → length a ≡ length qs → 0 < bits_of (answered a)
    → 0 < length (entries_of qs a)
some_entry [] [] e h = absurd (omega arith)
some_entry [] (ps ∷ a) e h = absurd (omega arith)
some_entry (q ∷ qs) [] e h = absurd (omega arith)
some_entry (q ∷ qs) ([] ∷ a) e h = some_entry qs a (omega arith) (omega arith)
some_entry (q ∷ qs) ((p ∷ ps) ∷ a) e h = omega arith

pub has_entries : (q : Query) (fits : List Fit) (a : List (List Pick)) (text : List ℕ) → IsQuery q
    → Admits q fits a → HasSmallPicks a → token_of q a ≡ text → HasEntries text (entries_of q.credentials a)
has_entries q fits a text well admitted small is =
    let long = length_admitted fits 0 q.credentials a admitted.lists in
    ((some_entry q.credentials a long admitted.set.0, each_entry q.credentials a well.credentials small), is)

-- a text has one list of entries at most
pub one_reading : (text : List ℕ) (es fs : List Entry) → HasEntries text es → HasEntries text fs → es ≡ fs
one_reading text es fs h k = joined_same IsEntry entry_text 43 entry_lacks entry_same es fs h.0 k.0 (h.1
    ∙ sym k.1)

-- ---- what a token is read as

pub nothing_read : (q : Query) (fits : List Fit) (text : List ℕ) → IsQuery q
    → Reads (IsEach IsEntry) entries_text text None
    → (a : List (List Pick)) → Admits q fits a → HasSmallPicks a → token_of q a ≡ text → ⊥
nothing_read q fits text well none a admitted small is =
    let h = has_entries q fits a text well admitted small is in
    none (entries_of q.credentials a) h.0 h.1

read_again : (q : Query) (fits : List Fit) (text : List ℕ) (es : List Entry) → IsQuery q → HasEntries text es
    → (a : List (List Pick)) → Admits q fits a → HasSmallPicks a → token_of q a ≡ text
    → es ≡ entries_of q.credentials a
read_again q fits text es well has a admitted small is =
    one_reading text es (entries_of q.credentials a) has (has_entries q fits a text well admitted small is)

pub unknown_read : (q : Query) (fits : List Fit) (text : List ℕ) (es : List Entry) → IsQuery q
    → HasEntries text es → are_known q.credentials es ≡ false
    → (a : List (List Pick)) → Admits q fits a → HasSmallPicks a → token_of q a ≡ text → ⊥
unknown_read q fits text es well has unknown a admitted small is =
    let same = ap (are_known q.credentials) (read_again q fits text es well has a admitted small is) in
    let known = known_from [] q.credentials a in
    cc (same, known, unknown)

pub answer_read : (q : Query) (fits : List Fit) (text : List ℕ) (es : List Entry) (b : List (List Pick))
    → IsQuery q
    → HasEntries text es → b ≡ lists_named q.credentials es
    → (a : List (List Pick)) → Admits q fits a → HasSmallPicks a → token_of q a ≡ text → b ≡ a
answer_read q fits text es b well has named a admitted small is =
    named ∙ ap (lists_named q.credentials) (read_again q fits text es well has a admitted small is)
    ∙ named_back q.credentials a well.ids_differ (length_admitted fits 0 q.credentials a admitted.lists)

pub none_answers : (q : Query) (fits : List Fit) (text : List ℕ) (es : List Entry) (b : List (List Pick))
    → IsQuery q → HasEntries text es → b ≡ lists_named q.credentials es
    → (Admits q fits b → token_of q b ≡ text → ⊥) → IsOfNoAnswer q fits text
none_answers q fits text es b well has named refused = λ a admitted small is.
    let same : b ≡ a = answer_read q fits text es b well has named a admitted small is in
    refused (subst (Admits q fits) (sym same) admitted) (subst (λ x. token_of q x ≡ text) (sym same) is)
