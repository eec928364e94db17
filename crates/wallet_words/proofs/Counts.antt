-- The texts of counts, and what a reader of them answers.
use Rattle.std.proofs.Common.{◌≡◌, ℕ, ◌≤◌, ◌&&◌, List, Bool, true, false, Option, Some, None, Result}
use Rattle.std.proofs.Common.{Ok, if◌then◌else◌, nat_le, decimal, arith, refl, ap, ◌∙◌, subst}
use Rattle.std.specs.Str.Parse.{digits_value, ParsesUnsigned}
use Rattle.std.proofs.lemmas.Bool.{le-leb, leb-true}
use Rattle.std.proofs.lemmas.Fmt.{decimal_is_IsNumeral, parse-decimal}
use Rattle.std.proofs.lemmas.Slice.Eq.{bytes_eq-Decides}
use Rattle.wallet_words.specs.Count.{is_count, count_of}
use Rattle.wallet_words.specs.Laws.{CountsAreDecimals}

abbrev pub IsCount : ℕ → List ℕ → Type 0
IsCount n text = (1 ≤ n) × (n ≤ 1000) × (text ≡ decimal n)

both : (a b : Bool) → (a && b) ≡ true → (a ≡ true) × (b ≡ true)
both true b h = (refl, h)
both false b h = absurd (cc h)

passes : (n : ℕ) (text : List ℕ) → IsCount n text → is_count n text ≡ true
passes n text h =
    rw (le-leb 1 n h.0, le-leb n 1000 h.1, (bytes_eq-Decides text (decimal n)).1 h.2) refl

passed : (n : ℕ) (text : List ℕ) → is_count n text ≡ true → IsCount n text
passed n text h =
    let low = both (nat_le 1 n) _ h in
    let high = both (nat_le n 1000) _ low.1 in
    (leb-true 1 n low.0, leb-true n 1000 high.0, (bytes_eq-Decides text (decimal n)).0 high.1)

pub counted : (n : ℕ) (text : List ℕ) → IsCount n text → count_of text ≡ Some n
counted n text h =
    let value : digits_value 10 text ≡ n =
    ap (digits_value 10) h.2 ∙ (decimal_is_IsNumeral n (omega (arith, h.1))).1 in
    ap (λ m. if is_count m text then Some m else None) value
    ∙ ap (λ b. if b then Some n else None) (passes n text h)

said : (n m : ℕ) (text : List ℕ) (b : Bool) → is_count m text ≡ b → (if b then Some m else None) ≡ Some n
    → IsCount n text
said n m text true test some =
    let same : m ≡ n = cc some in
    subst (λ k. IsCount k text) same (passed m text test)
said n m text false test some = absurd (cc some)

pub saying : (n : ℕ) (text : List ℕ) → count_of text ≡ Some n → IsCount n text
saying n text h = said n (digits_value 10 text) text (is_count (digits_value 10 text) text) refl h

pub counts_are_decimals : CountsAreDecimals
counts_are_decimals text n = (saying n text, counted n text)

-- no count is said where none is read
pub uncounted : (text : List ℕ) → ((n : ℕ) → IsCount n text → ⊥) → count_of text ≡ None
uncounted text never = go (count_of text) refl
  where
    go : (o : Option ℕ) → count_of text ≡ o → count_of text ≡ None
    go None h = h
    go (Some n) h = absurd (never n (saying n text h))

-- a count is parsed as its number
pub parsed : {E : Type 0} (n : ℕ) (text : List ℕ) (r : Result ℕ E) → IsCount n text
    → ParsesUnsigned 32 10 text r → r ≡ Ok n
parsed n text r h parses = parse-decimal 32 n text r (omega (arith, h.1)) (omega (arith, h.1)) h.2 parses
