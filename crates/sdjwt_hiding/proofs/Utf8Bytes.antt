-- The bytes of a text in UTF-8 are bytes.
use Rattle.std.proofs.Common.{◌≡◌, ℕ, zero, suc, ◌+◌, ◌/◌, ◌%◌, ◌<◌, Bool, true, false, cond, List, [], ◌∷◌}
use Rattle.std.proofs.Common.{◌++◌, IsUtf8, refl, subst, arith, inl, inr, ltb-true}
use Rattle.std.specs.Prelude.{nat_lt}
use Rattle.std.specs.List.{AllByRecursion}
use Rattle.std.proofs.Math.Utf8.{scalar, scalars, encode, encodes, scalar_cases}
use Rattle.std.proofs.lemmas.Bool.{and_parts}
use Rattle.base64.specs.GeneralPurpose.{IsBytes}

abbrev Small : List ℕ → Type 0
Small bs = AllByRecursion (λ b. b < 256) bs

below_top : (c : ℕ) → scalar c ≡ true → c < 1_114_112
below_top c h = elim (scalar_cases c h) [ inl low ↦ omega arith | inr high ↦ high.1 ]

small_at : (c : ℕ) → c < 1_114_112 → (x y z : Bool) → nat_lt c 128 ≡ x → nat_lt c 2048 ≡ y
    → nat_lt c 65536 ≡ z
    → Small (cond x (c ∷ []) (cond y ((192 + c / 64) ∷ (128 + c % 64) ∷ [])
    (cond z ((224 + c / 4096) ∷ (128 + c / 64 % 64) ∷ (128 + c % 64) ∷ [])
    ((240 + c / 262144) ∷ (128 + c / 4096 % 64) ∷ (128 + c / 64 % 64) ∷ (128 + c % 64) ∷ []))))
small_at c top true y z a b d = let low = ltb-true c 128 a in (omega arith, tt)
small_at c top false true z a b d = let low = ltb-true c 2048 b in (omega arith, (omega arith, tt))
small_at c top false false true a b d =
    let low = ltb-true c 65536 d in (omega arith, (omega arith, (omega arith, tt)))
small_at c top false false false a b d = (omega arith, (omega arith, (omega arith, (omega arith, tt))))

small_char : (c : ℕ) → scalar c ≡ true → Small (encode c)
unfolding encode
small_char c h =
    small_at c (below_top c h) (nat_lt c 128) (nat_lt c 2048) (nat_lt c 65536) refl refl refl

small_joined : (xs ys : List ℕ) → Small xs → Small ys → Small (xs ++ ys)
small_joined [] ys a b = b
small_joined (x ∷ xs) ys a b = (a.0, small_joined xs ys a.1 b)

small_chars : (cs : List ℕ) → scalars cs ≡ true → Small (encodes cs)
small_chars [] h = tt
small_chars (c ∷ cs) h =
    let both = and_parts (scalar c) (scalars cs) h in
    small_joined (encode c) (encodes cs) (small_char c both.0) (small_chars cs both.1)

small_bytes : (bs : List ℕ) → Small bs → IsBytes bs
small_bytes [] h i = omega arith
small_bytes (b ∷ bs) h zero = h.0
small_bytes (b ∷ bs) h (suc i) = small_bytes bs h.1 i

pub utf8_bytes : (bs : List ℕ) → IsUtf8 bs → IsBytes bs
utf8_bytes bs u = small_bytes bs (subst Small u.1.1 (small_chars u.0 u.1.0))
