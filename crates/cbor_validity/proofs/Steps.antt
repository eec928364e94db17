-- The steps of the loops over items.
use Rattle.std.proofs.Common.{◌≡◌, ◌≢◌, ℕ, zero, suc, ◌+◌, ◌-◌, ◌<◌, ◌≤◌, false, eqb, List, [], ◌∷◌, length}
use Rattle.std.proofs.Common.{Result, Ok, Err, refl, sym, ◌∙◌, arith}
use Rattle.std.proofs.lemmas.Bool.{ne_eqb}
use Rattle.cbor_validity.specs.declared.head.Fault.{Fault}
use Rattle.cbor_validity.specs.declared.head.Fault.TheVariants.{Short}
use Rattle.cbor_validity.specs.Item.{Reader, times, up_to_break}

pub times_step : (read : Reader) (n i : ℕ) (bytes after : List ℕ) (total : Result (List ℕ) Fault) → i < n
    → read bytes ≡ Ok after → times read (n - i) bytes ≡ total → times read (n - (i + 1)) after ≡ total
unfolding times
times_step read n i bytes after total lt h so_far =
    let k : n - i ≡ suc (n - (i + 1)) = omega arith in
    let one : times read (n - i) bytes ≡ times read (n - (i + 1)) after = rw (k, h) refl in
    sym one ∙ so_far

pub times_fails : (read : Reader) (n i : ℕ) (bytes : List ℕ) (f : Fault) (total : Result (List ℕ) Fault)
    → i < n → read bytes ≡ Err f → times read (n - i) bytes ≡ total → total ≡ Err f
unfolding times
times_fails read n i bytes f total lt h so_far =
    let k : n - i ≡ suc (n - (i + 1)) = omega arith in
    let one : times read (n - i) bytes ≡ Err f = rw (k, h) refl in
    sym so_far ∙ one

pub times_done : (read : Reader) (n i : ℕ) (bytes : List ℕ) (total : Result (List ℕ) Fault) → n ≤ i
    → times read (n - i) bytes ≡ total → total ≡ Ok bytes
unfolding times
times_done read n i bytes total le so_far =
    let k : n - i ≡ 0 = omega arith in
    let one : times read (n - i) bytes ≡ Ok bytes = rw k refl in
    sym so_far ∙ one

pub break_step : (read : Reader) (n i b : ℕ) (tail bytes after : List ℕ) (total : Result (List ℕ) Fault)
    → i < n → bytes ≡ b ∷ tail → b ≢ 255 → read bytes ≡ Ok after → up_to_break read (n - i) bytes ≡ total
    → up_to_break read (n - (i + 1)) after ≡ total
unfolding up_to_break
break_step read n i b tail bytes after total lt is ne h so_far =
    let k : n - i ≡ suc (n - (i + 1)) = omega arith in
    let test : eqb b 255 ≡ false = ne_eqb b 255 ne in
    let h' : read (b ∷ tail) ≡ Ok after = rw (← is) h in
    let one : up_to_break read (n - i) bytes ≡ up_to_break read (n - (i + 1)) after =
    rw (k, is, test, h') refl in
    sym one ∙ so_far

pub break_fails : (read : Reader) (n i b : ℕ) (tail bytes : List ℕ) (f : Fault)
    (total : Result (List ℕ) Fault) → i < n → bytes ≡ b ∷ tail → b ≢ 255 → read bytes ≡ Err f
    → up_to_break read (n - i) bytes ≡ total → total ≡ Err f
unfolding up_to_break
break_fails read n i b tail bytes f total lt is ne h so_far =
    let k : n - i ≡ suc (n - (i + 1)) = omega arith in
    let test : eqb b 255 ≡ false = ne_eqb b 255 ne in
    let h' : read (b ∷ tail) ≡ Err f = rw (← is) h in
    let one : up_to_break read (n - i) bytes ≡ Err f = rw (k, is, test, h') refl in
    sym so_far ∙ one

pub break_found : (read : Reader) (n i b : ℕ) (tail bytes : List ℕ) (total : Result (List ℕ) Fault) → i < n
    → bytes ≡ b ∷ tail → b ≡ 255 → up_to_break read (n - i) bytes ≡ total → total ≡ Ok tail
unfolding up_to_break
break_found read n i b tail bytes total lt is e so_far =
    let k : n - i ≡ suc (n - (i + 1)) = omega arith in
    let one : up_to_break read (n - i) bytes ≡ Ok tail = rw (k, is, e) refl in
    sym so_far ∙ one

pub break_short : (read : Reader) (n : ℕ) (bytes : List ℕ) (total : Result (List ℕ) Fault) → length bytes ≡ 0
    → up_to_break read n bytes ≡ total → total ≡ Err Short
unfolding up_to_break
break_short read n [] total e so_far = sym so_far
break_short read n (b ∷ bytes) total e so_far = absurd (omega arith)

no_turns : (read : Reader) (bytes : List ℕ) → up_to_break read zero bytes ≡ Err Short
unfolding up_to_break
no_turns read [] = refl
no_turns read (b ∷ bytes) = refl

pub break_done : (read : Reader) (n i : ℕ) (bytes : List ℕ) (total : Result (List ℕ) Fault) → n ≤ i
    → up_to_break read (n - i) bytes ≡ total → total ≡ Err Short
break_done read n i bytes total le so_far =
    let k : n - i ≡ 0 = omega arith in
    let one : up_to_break read (n - i) bytes ≡ Err Short = rw k (no_turns read bytes) in
    sym so_far ∙ one
