-- There are no more items in bytes than bytes.
use Rattle.std.proofs.Common.{ℕ, zero, suc, ◌≤◌, List, [], ◌∷◌, length, Result, Ok, Err, arith}
use Rattle.cbor_validity.specs.declared.head.Fault.{Fault}
use Rattle.cbor_validity.specs.declared.head.TheConstants.{MAX_DEPTH}
use Rattle.cbor_validity.specs.Item.{Reader, item_at}
use Rattle.cbor_core.specs.Views.{on_ok, cut, before, items_in, pair_up}

one_more : (r : Result (List ℕ) Fault) (f : List ℕ → List (List ℕ)) (n : ℕ)
    → ((rest : List ℕ) → length (f rest) ≤ n) → length (on_ok r f []) ≤ n
one_more (Ok rest) f n h = h rest
one_more (Err e) f n h = omega arith

cut_count : (read : Reader) (turns : ℕ) (bytes : List ℕ) → length (cut read turns bytes) ≤ turns
unfolding cut
cut_count read turns [] = omega arith
cut_count read zero (b ∷ bytes) = omega arith
cut_count read (suc turns) (b ∷ bytes) =
    one_more (read (b ∷ bytes)) (λ rest. before rest (b ∷ bytes) ∷ cut read turns rest) (suc turns)
    (λ rest. omega (arith, cut_count read turns rest))

pub items_count : (bytes : List ℕ) → length (items_in bytes) ≤ length bytes
unfolding items_in
items_count bytes = cut_count (item_at MAX_DEPTH) (length bytes) bytes

pairs_count : (items : List (List ℕ)) → length (pair_up items) ≤ length items
pairs_count [] = omega arith
pairs_count (key ∷ []) = omega arith
pairs_count (key ∷ value ∷ items) = omega (arith, pairs_count items)

pub entries_count : (bytes : List ℕ) → length (pair_up (items_in bytes)) ≤ length bytes
entries_count bytes = omega (arith, items_count bytes, pairs_count (items_in bytes))
