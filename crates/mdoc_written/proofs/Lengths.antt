-- What is written is longer than its parts.
use Rattle.std.proofs.Common.{◌≡◌, ℕ, suc, ◌+◌, ◌≤◌, Bool, true, false, List, [], ◌∷◌, ◌++◌, length, Ordering}
use Rattle.std.proofs.Common.{Less, Equal, Greater, refl, arith, inl, inr, nat_lt, cond}
use Rattle.std.specs.Ordering.{match_ordering}
use Rattle.std.specs.List.{concat}
use Rattle.std.proofs.lemmas.Bool.{cases_Bool}
use Rattle.std.proofs.lemmas.List.{length-append}
use Rattle.cbor_core.specs.Order.{Pair}
use Rattle.cbor_core.specs.Writing.{head_bytes, pairs_bytes}
use Rattle.mdoc_written.specs.Containers.{put_by_key, by_key}
use Rattle.mdoc_written.proofs.Sorting.{by_first}

some_of : (b : Bool) (xs ys : List ℕ) → 1 ≤ length xs → 1 ≤ length ys → 1 ≤ length (cond b xs ys)
some_of true xs ys h k = h
some_of false xs ys h k = k

pub head_some : (major n : ℕ) → 1 ≤ length (head_bytes major n)
unfolding head_bytes
head_some major n =
    some_of (nat_lt n 24) _ _ (omega arith)
    (some_of (nat_lt n 256) _ _ (omega arith)
    (some_of (nat_lt n 65536) _ _ (omega arith)
    (some_of (nat_lt n 4294967296) _ _ (omega arith) (omega arith))))

-- a head adds a byte at least
pub behind_head : (major n : ℕ) (rest : List ℕ) → suc (length rest) ≤ length (head_bytes major n ++ rest)
behind_head major n rest = omega (arith, head_some major n, length-append (head_bytes major n) rest)

pub pair_length : (p : Pair) (ps : List Pair)
    → length (pairs_bytes (p ∷ ps)) ≡ length p.0 + length p.1 + length (pairs_bytes ps)
pair_length p ps = omega (arith, length-append (p.0 ++ p.1) (pairs_bytes ps), length-append p.0 p.1)

put_at : (p q : Pair) (qs : List Pair) (o : Ordering)
    → length (pairs_bytes (put_by_key p qs)) ≡ length (pairs_bytes (p ∷ qs))
    → length (pairs_bytes (match_ordering o (p ∷ q ∷ qs) (p ∷ q ∷ qs) (q ∷ put_by_key p qs)))
    ≡ length (pairs_bytes (p ∷ q ∷ qs))
put_at p q qs Less h = refl
put_at p q qs Equal h = refl
put_at p q qs Greater h =
    omega (
      arith,
      h,
      pair_length q (put_by_key p qs),
      pair_length p qs,
      pair_length p (q ∷ qs),
      pair_length q qs,
    )

put_length : (p : Pair) (ps : List Pair)
    → length (pairs_bytes (put_by_key p ps)) ≡ length (pairs_bytes (p ∷ ps))
put_length p [] = refl
put_length p (q ∷ qs) = put_at p q qs (by_first p q) (put_length p qs)

-- the order takes no more bytes
pub by_key_bytes : (ps : List Pair) → length (pairs_bytes (by_key ps)) ≡ length (pairs_bytes ps)
by_key_bytes [] = refl
by_key_bytes (p ∷ ps) =
    omega (
      arith,
      put_length p (by_key ps),
      pair_length p (by_key ps),
      pair_length p ps,
      by_key_bytes ps,
    )

pub item_length : (x : List ℕ) (xs : List (List ℕ)) → length (concat (x ∷ xs)) ≡ length x + length (concat xs)
item_length x xs = length-append x (concat xs)
