-- Sets of queries as lists of flags, their ranks and their bits.
use Rattle.std.proofs.Common.{◌≡◌, ℕ, ◌+◌, ◌*◌, ◌-◌, ◌^◌, ◌<◌, ◌≤◌, suc, Bool, true, false, cond, List, []}
use Rattle.std.proofs.Common.{◌∷◌, length, refl, sym, ap, ap₂, ◌∙◌, subst, inl, inr, ◌↔◌, arith, zero-add}
use Rattle.std.specs.Prelude.{nat_lt, bit_and, is_some}
use Rattle.std.specs.declared.cmp.Ordering.TheVariants.{Less}
use Rattle.std.proofs.lemmas.Bool.{cases_Bool, ltb-true, ltb-false, lt-ltb, le-ltb}
use Rattle.std.proofs.lemmas.Nat.{and_block}
use Rattle.std.proofs.Math.Nat.{pow-suc}
use Rattle.dcql_answers.specs.declared.pick.Pick.{Pick}
use Rattle.dcql_answers.specs.declared.fits.Fit.{Fit}
use Rattle.dcql_answers.specs.Answer.{is_answered, answered, sets_cmp}
use Rattle.admitted_answers.specs.Admits.{bits_of}
use Rattle.dcql_answers.specs.Fits.{least_fit}
use Rattle.admitted_answers.specs.code.Search.{rank_of, set_at, fitting}
use Rattle.dcql_answers.proofs.Orders.{sets_order, apart}
use Rattle.dcql_query.specs.Query.{Credential}
use Rattle.admitted_answers.proofs.SameSet.{Fillable}

-- the flags of the set of a rank
abbrev pub flags_at : {A : Type 0} → List A → ℕ → List Bool
flags_at [] r = []
flags_at (m ∷ ms) r = cond (nat_lt r (2 ^ length ms)) (true ∷ flags_at ms r)
    (false ∷ flags_at ms (r - 2 ^ length ms))

abbrev pub rank_flags : List Bool → ℕ
rank_flags [] = 0
rank_flags (b ∷ bs) = (cond b 0 (2 ^ length bs)) + rank_flags bs

set_by : (t : Bool) (x y : ℕ) (xs ys : List Bool) → x ≡ bits_of xs → y ≡ bits_of ys
    → cond t (1 + 2 * x) (2 * y) ≡ bits_of (cond t (true ∷ xs) (false ∷ ys))
set_by true x y xs ys e f = ap (λ z. 1 + 2 * z) e
set_by false x y xs ys e f = ap (λ z. 2 * z) f ∙ sym (zero-add _)

pub set_at_bits : {A : Type 0} (ms : List A) (r : ℕ) → set_at ms r ≡ bits_of (flags_at ms r)
set_at_bits [] r = refl
set_at_bits (m ∷ ms) r = set_by (nat_lt r (2 ^ length ms)) _ _ _ _ (set_at_bits ms r)
    (set_at_bits ms (r - 2 ^ length ms))

length_by : (t : Bool) (n : ℕ) (xs ys : List Bool) → length xs ≡ n → length ys ≡ n
    → length (cond t (true ∷ xs) (false ∷ ys)) ≡ suc n
length_by true n xs ys e f = ap suc e
length_by false n xs ys e f = ap suc f

pub length_flags : {A : Type 0} (ms : List A) (r : ℕ) → length (flags_at ms r) ≡ length ms
length_flags [] r = refl
length_flags (m ∷ ms) r = length_by (nat_lt r (2 ^ length ms)) (length ms) _ _ (length_flags ms r)
    (length_flags ms (r - 2 ^ length ms))

pub rank_below : (bs : List Bool) → rank_flags bs < 2 ^ length bs
rank_below [] = omega arith
rank_below (true ∷ bs) = let low = rank_below bs in let e : 2 ^ suc (length bs) ≡ 2 ^ length bs * 2 =
    pow-suc 2 (length bs) in omega arith
rank_below (false ∷ bs) = let low = rank_below bs in let e : 2 ^ suc (length bs) ≡ 2 ^ length bs * 2 =
    pow-suc 2 (length bs) in omega arith

pub length_answered : (a : List (List Pick)) → length (answered a) ≡ length a
length_answered [] = refl
length_answered (ps ∷ a) = ap suc (length_answered a)

rank_by : (t : Bool) (n m r s : ℕ) → m ≡ n → r ≡ s → cond t 0 (2 ^ m) + r ≡ cond t 0 (2 ^ n) + s
rank_by t n m r s e f = ap₂ (λ x y. cond t 0 (2 ^ x) + y) e f

pub rank_answered : (a : List (List Pick)) → rank_of a ≡ rank_flags (answered a)
rank_answered [] = refl
rank_answered (ps ∷ a) = rank_by (is_answered ps) _ _ _ _ (sym (length_answered a)) (rank_answered a)

flags_low : {A : Type 0} (m : A) (ms : List A) (r : ℕ) → r < 2 ^ length ms
    → flags_at (m ∷ ms) r ≡ true ∷ flags_at ms r
flags_low m ms r h = ap (λ t. cond t (true ∷ flags_at ms r) (false ∷ flags_at ms (r - 2 ^ length ms)))
    (lt-ltb r (2 ^ length ms) h)

flags_high : {A : Type 0} (m : A) (ms : List A) (r : ℕ) → 2 ^ length ms ≤ r
    → flags_at (m ∷ ms) r ≡ false ∷ flags_at ms (r - 2 ^ length ms)
flags_high m ms r h = ap (λ t. cond t (true ∷ flags_at ms r) (false ∷ flags_at ms (r - 2 ^ length ms)))
    (le-ltb r (2 ^ length ms) h)

pub flags_rank : {A : Type 0} (ms : List A) (bs : List Bool) → length bs ≡ length ms
    → flags_at ms (rank_flags bs) ≡ bs
flags_rank [] [] h = refl
flags_rank [] (b ∷ bs) h = absurd (omega arith)
flags_rank (m ∷ ms) [] h = absurd (omega arith)
flags_rank (m ∷ ms) (true ∷ bs) h =
    let same : length bs ≡ length ms = omega arith in
    let low : rank_flags bs < 2 ^ length ms = subst (λ n. rank_flags bs < 2 ^ n) same (rank_below bs) in
    ap (flags_at (m ∷ ms)) (zero-add (rank_flags bs)) ∙ flags_low m ms (rank_flags bs) low
    ∙ ap (λ x. true ∷ x) (flags_rank ms bs same)
flags_rank (m ∷ ms) (false ∷ bs) h =
    let same : length bs ≡ length ms = omega arith in
    let half : 2 ^ length bs ≡ 2 ^ length ms = ap (λ n. 2 ^ n) same in
    let rest : 2 ^ length bs + rank_flags bs - 2 ^ length ms ≡ rank_flags bs = omega arith in
    flags_high m ms (2 ^ length bs + rank_flags bs) (omega arith) ∙ ap (λ r. false ∷ flags_at ms r) rest
    ∙ ap (λ x. false ∷ x) (flags_rank ms bs same)

pub rank_flags_at : {A : Type 0} (ms : List A) (r : ℕ) → r < 2 ^ length ms → rank_flags (flags_at ms r) ≡ r
rank_flags_at [] r h = omega arith
rank_flags_at (m ∷ ms) r h = elim (cases_Bool (nat_lt r (2 ^ length ms))) [
  | inl e ↦
      let low : r < 2 ^ length ms = ltb-true r (2 ^ length ms) e in
      ap rank_flags (flags_low m ms r low) ∙ zero-add _ ∙ rank_flags_at ms r low
  | inr e ↦
      let high : 2 ^ length ms ≤ r = ltb-false r (2 ^ length ms) e in
      let all : 2 ^ suc (length ms) ≡ 2 ^ length ms * 2 = pow-suc 2 (length ms) in
      let half : 2 ^ length (flags_at ms (r - 2 ^ length ms)) ≡ 2 ^ length ms =
      ap (λ n. 2 ^ n) (length_flags ms (r - 2 ^ length ms)) in
      let rest : rank_flags (flags_at ms (r - 2 ^ length ms)) ≡ r - 2 ^ length ms =
      rank_flags_at ms (r - 2 ^ length ms) (omega arith) in
      ap rank_flags (flags_high m ms r high) ∙ omega arith
]

-- ---- the order of sets is that of their ranks

pub less_rank : (bs cs : List Bool) → length bs ≡ length cs → sets_cmp bs cs ≡ Less
    → rank_flags bs < rank_flags cs
less_rank [] [] h less = absurd (cc less)
less_rank [] (c ∷ cs) h less = absurd (omega arith)
less_rank (b ∷ bs) [] h less = absurd (omega arith)
less_rank (true ∷ bs) (true ∷ cs) h less = let more = less_rank bs cs (omega arith) less in omega arith
less_rank (false ∷ bs) (false ∷ cs) h less =
    let same : length bs ≡ length cs = omega arith in
    let half : 2 ^ length bs ≡ 2 ^ length cs = ap (λ n. 2 ^ n) same in
    let more = less_rank bs cs same less in
    omega arith
less_rank (true ∷ bs) (false ∷ cs) h less =
    let same : length bs ≡ length cs = omega arith in
    let half : 2 ^ length bs ≡ 2 ^ length cs = ap (λ n. 2 ^ n) same in
    let low = rank_below bs in
    omega arith
less_rank (false ∷ bs) (true ∷ cs) h less = absurd (cc less)

pub rank_less : (bs cs : List Bool) → length bs ≡ length cs → rank_flags bs < rank_flags cs
    → sets_cmp bs cs ≡ Less
rank_less bs cs h low = elim (apart sets_cmp sets_order bs cs) [
  | inl less ↦ less
  | inr (inl same) ↦ absurd (let e = ap rank_flags same in omega arith)
  | inr (inr more) ↦ absurd (let m = less_rank cs bs (sym h) more in omega arith)
]

-- ---- bits

and_bits : (x y a f : ℕ) → x < 2 → y < 2 → bit_and (x + 2 * a) (y + 2 * f) ≡ bit_and a f * 2 + bit_and x y
and_bits x y a f h k =
    let e : x + 2 * a ≡ a * 2 + x = omega arith in
    let g : y + 2 * f ≡ f * 2 + y = omega arith in
    ap₂ bit_and e g ∙ and_block 1 a f x y h k

bits_step : (b t : Bool) (a f : ℕ) → (bit_and (cond b 1 0 + 2 * a) (cond t 1 0 + 2 * f) ≡ cond b 1 0 + 2 * a)
    ↔ ((b ≡ true → t ≡ true) × (bit_and a f ≡ a))
bits_step true true a f = let e = and_bits 1 1 a f (omega arith) (omega arith) in
    ((λ h. ((λ x. refl), omega arith)), λ h. let g : bit_and a f ≡ a = h.1 in omega arith)
bits_step true false a f = let e = and_bits 1 0 a f (omega arith) (omega arith) in
    ((λ h. absurd (omega arith)), λ h. absurd (let g : false ≡ true = h.0 refl in cc g))
bits_step false true a f = let e = and_bits 0 1 a f (omega arith) (omega arith) in
    ((λ h. ((λ x. refl), omega arith)), λ h. let g : bit_and a f ≡ a = h.1 in omega arith)
bits_step false false a f = let e = and_bits 0 0 a f (omega arith) (omega arith) in
    ((λ h. ((λ x. x), omega arith)), λ h. let g : bit_and a f ≡ a = h.1 in omega arith)

pub fits_bits : (fits : List Fit) (i : ℕ) (ms : List Credential) (bs : List Bool) → length bs ≡ length ms
    → (bit_and (bits_of bs) (fitting fits i ms) ≡ bits_of bs) ↔ Fillable fits i ms bs
fits_bits fits i [] [] h = ((λ e. tt), λ e. refl)
fits_bits fits i [] (b ∷ bs) h = absurd (omega arith)
fits_bits fits i (m ∷ ms) [] h = absurd (omega arith)
fits_bits fits i (m ∷ ms) (b ∷ bs) h =
    let step = bits_step b (is_some (least_fit fits i 0 0)) (bits_of bs) (fitting fits (i + 1) ms) in
    let rest = fits_bits fits (i + 1) ms bs (omega arith) in
    ((λ e. let s = step.0 e in (s.0, rest.0 s.1)), λ f. step.1 (f.0, rest.1 f.1))

pub bits_below : (bs : List Bool) → bits_of bs < 2 ^ length bs
bits_below [] = omega arith
bits_below (true ∷ bs) = let low = bits_below bs in let e : 2 ^ suc (length bs) ≡ 2 ^ length bs * 2 =
    pow-suc 2 (length bs) in omega arith
bits_below (false ∷ bs) = let low = bits_below bs in let e : 2 ^ suc (length bs) ≡ 2 ^ length bs * 2 =
    pow-suc 2 (length bs) in omega arith
