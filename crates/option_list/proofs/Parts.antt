-- Reading numbers, picks and entries.
use Rattle.std.proofs.Common.{◌≡◌, ℕ, suc, ◌<◌, true, false, List, [], ◌∷◌, ◌++◌}
use Rattle.std.proofs.Common.{length, Option}
use Rattle.std.proofs.Common.{Some, None, refl, sym, ap, ap₂, ◌∙◌, arith, subst, get_or, Bor, decimal}
use Rattle.std.proofs.Common.{inl}
use Rattle.std.proofs.Common.{Result, Ok, Err}
use Rattle.std.specs.Prelude.{MatchOption}
use Rattle.std.specs.Str.Parse.{ParsesUnsigned}
use Rattle.std.proofs.lemmas.Bool.{eq-eqb, ne_eqb}
use Rattle.std.proofs.lemmas.Fmt.{parse-decimal, decimal_injective}
use Rattle.std.proofs.lemmas.Str.Pattern.{IsSplitOnceResult, split_parts}
use Rattle.dcql_answers.specs.declared.pick.Pick.{Pick}
use Rattle.dcql_rules.specs.Ids.{is_id}
use Rattle.option_list.specs.Token.{pick_text, picks_text, Entry, entry_text}
use Rattle.option_list.specs.Form.{IsSmallNumber, IsSmall, IsEach, IsEntry, Reads}
use Rattle.option_list.proofs.Lacks.{Lacks, number_lacks, pick_lacks, id_lacks, same_front}
use Rattle.option_list.proofs.Lists.{Distinct, joined_same}

-- ---- numbers

pub number_none : {E : Type 0} (text : List ℕ) (r : Result ℕ E) (e : E) → ParsesUnsigned 16 10 text r
    → r ≡ Err e
    → Reads IsSmallNumber decimal text None
number_none text r e parses h = λ n small is.
    let found : r ≡ Ok n = parse-decimal 16 n text r small (omega arith) (sym is) parses in
    cc (found, h)

pub number_other : {E : Type 0} (text : List ℕ) (r : Result ℕ E) (m : ℕ) → ParsesUnsigned 16 10 text r
    → r ≡ Ok m
    → (decimal m ≡ text → ⊥) → Reads IsSmallNumber decimal text None
number_other text r m parses h other = λ n small is.
    let found : r ≡ Ok n = parse-decimal 16 n text r small (omega arith) (sym is) parses in
    let same : m ≡ n = cc (found, h) in
    other (ap decimal same ∙ is)

number_same : Distinct IsSmallNumber decimal
number_same m n h k e = decimal_injective m n (omega arith) (omega arith) e

-- ---- two parts, joined at a byte that the first lacks

abbrev Halves : Type 0
Halves = Bor (List ℕ) × Bor (List ℕ)

-- what stands before the first such byte, and after it
abbrev pub AreHalves : ℕ → List ℕ → List ℕ → List ℕ → Type 0
AreHalves c text xs ys = Lacks c xs × (text ≡ xs ++ c ∷ ys)

lacks_each : (c : ℕ) (xs : List ℕ) → ((i : ℕ) → i < length xs → get_or xs i 0 ≡ c → ⊥) → Lacks c xs
lacks_each c [] h = tt
lacks_each c (x ∷ xs) h =
    (ne_eqb x c (h 0 (omega arith)), lacks_each c xs (λ i low. h (suc i) (omega arith)))

pub not_cut : (c : ℕ) (text : List ℕ) (r : Option Halves) → IsSplitOnceResult c text r → c < 128
    → r ≡ None → Lacks c text
not_cut c text r cut low none =
    lacks_each c text (subst (λ o. MatchOption o ((i : ℕ) → i < length text → get_or text i 0 ≡ c → ⊥) (λ x.
    (text ≡ x.0.now ++ c ∷ x.1.now) × ((i : ℕ) → i < length x.0.now → get_or x.0.now i 0 ≡ c → ⊥)))
    none (split_parts c text r cut low))

pub was_cut : (c : ℕ) (text : List ℕ) (r : Option Halves) (x : Halves) → IsSplitOnceResult c text r
    → c < 128 → r ≡ Some x → AreHalves c text x.0.now x.1.now
was_cut c text r x cut low some =
    let parts =
    subst (λ o. MatchOption o ((i : ℕ) → i < length text → get_or text i 0 ≡ c → ⊥) (λ x.
    (text ≡ x.0.now ++ c ∷ x.1.now) × ((i : ℕ) → i < length x.0.now → get_or x.0.now i 0 ≡ c → ⊥)))
    some (split_parts c text r cut low) in
    (lacks_each c x.0.now parts.1, parts.0)

lacks_itself : (c : ℕ) (xs ys : List ℕ) → Lacks c (xs ++ c ∷ ys) → ⊥
lacks_itself c [] ys h = let is = eq-eqb c c refl in let f = h.0 in cc (is, f)
lacks_itself c (x ∷ xs) ys h = lacks_itself c xs ys h.1

uncut : (c : ℕ) (text xs ys : List ℕ) → Lacks c text → xs ++ c ∷ ys ≡ text → ⊥
uncut c text xs ys lacks is = lacks_itself c xs ys (subst (Lacks c) (sym is) lacks)

-- ---- picks

pub pick_uncut : (text : List ℕ) → Lacks 46 text → Reads IsSmall pick_text text None
pick_uncut text lacks = λ p small is. uncut 46 text (decimal p.credential) (decimal p.set) lacks is

pick_halves : (text xs ys : List ℕ) → AreHalves 46 text xs ys → (p : Pick) → IsSmall p → pick_text p ≡ text
    → (decimal p.credential ≡ xs) × (decimal p.set ≡ ys)
pick_halves text xs ys cut p small is =
    same_front 46 (decimal p.credential) xs (decimal p.set) ys
    (number_lacks 46 (inl (omega arith)) p.credential small.0) cut.0 (is ∙ cut.1)

pub no_credential : (text xs ys : List ℕ) → AreHalves 46 text xs ys
    → Reads IsSmallNumber decimal xs None → Reads IsSmall pick_text text None
no_credential text xs ys cut none = λ p small is.
    none p.credential small.0 (pick_halves text xs ys cut p small is).0

pub no_set : (text xs ys : List ℕ) → AreHalves 46 text xs ys → Reads IsSmallNumber decimal ys None
    → Reads IsSmall pick_text text None
no_set text xs ys cut none = λ p small is. none p.set small.1 (pick_halves text xs ys cut p small is).1

pub one_pick : (text xs ys : List ℕ) (c s : ℕ) → AreHalves 46 text xs ys
    → Reads IsSmallNumber decimal xs (Some c) → Reads IsSmallNumber decimal ys (Some s)
    → Reads IsSmall pick_text text (Some (record { credential = c; set = s }))
one_pick text xs ys c s cut first second =
    ((first.0, second.0), ap₂ (λ a b. a ++ 46 ∷ b) first.1 second.1 ∙ sym cut.1)

pick_same : Distinct IsSmall pick_text
pick_same p r h k e =
    let parts =
    same_front 46 (decimal p.credential) (decimal r.credential) (decimal p.set) (decimal r.set)
    (number_lacks 46 (inl (omega arith)) p.credential h.0)
    (number_lacks 46 (inl (omega arith)) r.credential k.0) e in
    let make : ℕ → ℕ → Pick = λ c s. record { credential = c; set = s } in
    ap₂ make (number_same _ _ h.0 k.0 parts.0) (number_same _ _ h.1 k.1 parts.1)

picks_same : Distinct (IsEach IsSmall) picks_text
picks_same = joined_same IsSmall pick_text 44 (pick_lacks 44 (inl (omega arith)) refl) pick_same

-- ---- entries

pub entry_uncut : (text : List ℕ) → Lacks 58 text → Reads IsEntry entry_text text None
entry_uncut text lacks = λ e good is. uncut 58 text e.id (picks_text e.picks) lacks is

entry_halves : (text xs ys : List ℕ) → AreHalves 58 text xs ys → (e : Entry) → IsEntry e
    → entry_text e ≡ text → (e.id ≡ xs) × (picks_text e.picks ≡ ys)
entry_halves text xs ys cut e good is =
    same_front 58 e.id xs (picks_text e.picks) ys (id_lacks 58 refl e.id good.0) cut.0 (is ∙ cut.1)

pub no_id : (text xs ys : List ℕ) → AreHalves 58 text xs ys → is_id xs ≡ false
    → Reads IsEntry entry_text text None
no_id text xs ys cut wrong = λ e good is.
    let parts = entry_halves text xs ys cut e good is in
    let right = good.0 in
    let same = ap is_id parts.0 in
    cc (right, same, wrong)

pub no_picks : (text xs ys : List ℕ) → AreHalves 58 text xs ys
    → Reads (IsEach IsSmall) picks_text ys None → Reads IsEntry entry_text text None
no_picks text xs ys cut none = λ e good is.
    none e.picks good.1 (entry_halves text xs ys cut e good is).1

pub one_entry : (text xs ys : List ℕ) (ps : List Pick) → AreHalves 58 text xs ys → is_id xs ≡ true
    → Reads (IsEach IsSmall) picks_text ys (Some ps)
    → Reads IsEntry entry_text text (Some (record { id = xs; picks = ps }))
one_entry text xs ys ps cut right picks =
    ((right, picks.0), ap (λ b. xs ++ 58 ∷ b) picks.1 ∙ sym cut.1)

pub entry_same : Distinct IsEntry entry_text
entry_same e f h k is =
    let parts =
    same_front 58 e.id f.id (picks_text e.picks) (picks_text f.picks) (id_lacks 58 refl e.id h.0)
    (id_lacks 58 refl f.id k.0) is in
    let make : List ℕ → List Pick → Entry = λ i ps. record { id = i; picks = ps } in
    ap₂ make parts.0 (picks_same _ _ h.1 k.1 parts.1)
