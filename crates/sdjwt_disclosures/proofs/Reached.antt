-- How often a digest is reached.
use Rattle.std.proofs.Common.{◌≡◌, ◌≤◌, ℕ, zero, suc, ◌+◌, true, false, cond, List, [], ◌∷◌, ◌++◌, map}
use Rattle.std.proofs.Common.{Option, Some, None, refl, ap, ◌∙◌, arith, inl, inr}
use Rattle.std.specs.Str.{bytes_eq}
use Rattle.std.proofs.lemmas.Bool.{cases_Bool}
use Rattle.std.proofs.lemmas.List.{map-append}
use Rattle.serde_json.specs.Data.{Data}
use Rattle.base_forms.specs.Texts.{Utf8, differ}
use Rattle.sdjwt_digests.specs.Disclosures.{Disclosed, found}
use Rattle.sdjwt_digests.specs.DigestSites.{digest_at, sites_in, digests_in, values_sites, all_sites}
use Rattle.sdjwt_disclosures.specs.Reachable.{reached, reached_by}
use Rattle.sdjwt_disclosures.specs.Spelling.{times}
use Rattle.sdjwt_disclosures.proofs.Counting.{one_true, one_false, times-append, differ_times}
use Rattle.base_forms.proofs.Differing.{bytes_eq-flip}

-- what a disclosure that is found gives
abbrev pub from : (Data → List Utf8) → Option Disclosed → List Utf8
from f o = elim o [ None ↦ [] | Some l ↦ f l.value ]

pub by_more : (x : Utf8) (f : Data → List Utf8) (ls : List Disclosed) (y : Utf8) (ys : List Utf8)
    → times x (reached_by f ls (y ∷ ys)) ≡ times x (from f (found y ls)) + times x (reached_by f ls ys)
by_more x f ls y ys = times-append x (from f (found y ls)) (reached_by f ls ys)

pub by-append : (x : Utf8) (f : Data → List Utf8) (ls : List Disclosed) (ys zs : List Utf8)
    → times x (reached_by f ls (ys ++ zs)) ≡ times x (reached_by f ls ys) + times x (reached_by f ls zs)
by-append x f ls [] zs = omega arith
by-append x f ls (y ∷ ys) zs =
    omega (arith, by_more x f ls y ys, by_more x f ls y (ys ++ zs), by-append x f ls ys zs)

from_at_most : (x : Utf8) (f g : Data → List Utf8) → ((d : Data) → times x (f d) ≤ times x (g d))
    → (o : Option Disclosed) → times x (from f o) ≤ times x (from g o)
from_at_most x f g h None = omega arith
from_at_most x f g h (Some l) = h l.value

by_at_most : (x : Utf8) (f g : Data → List Utf8) (ls : List Disclosed)
    → ((d : Data) → times x (f d) ≤ times x (g d)) → (ys : List Utf8)
    → times x (reached_by f ls ys) ≤ times x (reached_by g ls ys)
by_at_most x f g ls h [] = omega arith
by_at_most x f g ls h (y ∷ ys) =
    omega (
      arith,
      by_more x f ls y ys,
      by_more x g ls y ys,
      from_at_most x f g h (found y ls),
      by_at_most x f g ls h ys,
    )

pub reached_more : (x : Utf8) (n : ℕ) (ls : List Disclosed) (d : Data)
    → times x (reached (suc n) ls d) ≡ times x (digests_in d) + times x
    (reached_by (reached n ls) ls (digests_in d))
reached_more x n ls d = times-append x (digests_in d) (reached_by (reached n ls) ls (digests_in d))

-- ---- more fuel reaches no less

one_further : (x : Utf8) (n : ℕ) (ls : List Disclosed) (d : Data)
    → times x (reached n ls d) ≤ times x (reached (suc n) ls d)
one_further x zero ls d = omega arith
one_further x (suc n) ls d =
    omega (
      arith,
      reached_more x n ls d,
      reached_more x (suc n) ls d,
      by_at_most x (reached n ls)
          (reached (suc n) ls) ls (one_further x n ls) (digests_in d),
    )

pub further : (x : Utf8) (n m : ℕ) (ls : List Disclosed) (d : Data)
    → times x (reached n ls d) ≤ times x (reached (m + n) ls d)
further x n zero ls d = let e : 0 + n ≡ n = omega arith in rw e (omega arith)
further x n (suc m) ls d =
    let e : suc m + n ≡ suc (m + n) = omega arith in
    let here = further x n m ls d in
    let next = one_further x (m + n) ls d in
    rw e (omega arith)

-- ---- no digest is reached twice

by_nothing : (x : Utf8) (ls : List Disclosed) (ys : List Utf8) → times x (reached_by (reached 0 ls) ls ys) ≡ 0
by_nothing x ls [] = refl
by_nothing x ls (y ∷ ys) =
    omega (arith, by_more x (reached 0 ls) ls y ys, from_nothing (found y ls), by_nothing x ls ys) where
      from_nothing : (o : Option Disclosed) → times x (from (reached 0 ls) o) ≡ 0
      from_nothing None = refl
      from_nothing (Some l) = refl

-- what is reached one step further stands in the value or in that of a disclosure that is reached
expand : (x : Utf8) (n : ℕ) (ls : List Disclosed) (d : Data)
    → times x (reached (suc n) ls d) ≡ times x (digests_in d) + times x
    (reached_by digests_in ls (reached n ls d))
expand x zero ls d = omega (arith, reached_more x 0 ls d, by_nothing x ls (digests_in d))
expand x (suc n) ls d =
    omega (
      arith,
      reached_more x (suc n) ls d,
      by-append x digests_in ls (digests_in d)
          (reached_by (reached n ls) ls (digests_in d)),
      below (expand x n ls) (digests_in d),
    ) where
      from_below : ((d : Data) → times x (reached (suc n) ls d) ≡ times x (digests_in d) + times x
          (reached_by digests_in ls (reached n ls d)))
          → (o : Option Disclosed)
          → times x (from (reached (suc n) ls) o) ≡ times x (from digests_in o) + times x
          (reached_by digests_in ls (from (reached n ls) o))
      from_below inner None = omega arith
      from_below inner (Some l) = inner l.value

      below : ((d : Data) → times x (reached (suc n) ls d) ≡ times x (digests_in d) + times x
          (reached_by digests_in ls (reached n ls d)))
          → (ys : List Utf8)
          → times x (reached_by (reached (suc n) ls) ls ys) ≡ times x
          (reached_by digests_in ls ys) + times x
          (reached_by digests_in ls (reached_by (reached n ls) ls ys))
      below inner [] = omega arith
      below inner (y ∷ ys) =
          omega (
            arith,
            by_more x (reached (suc n) ls) ls y ys,
            by_more x digests_in ls y ys,
            by-append x digests_in ls (from (reached n ls) (found y ls)) (reached_by (reached n ls) ls ys),
            from_below inner (found y ls),
            below inner ys,
          )

abbrev pub value_digests : List Disclosed → List Utf8
value_digests ls = map digest_at (values_sites ls)

value_more : (x : Utf8) (l : Disclosed) (ls : List Disclosed)
    → times x (value_digests (l ∷ ls)) ≡ times x (digests_in l.value) + times x (value_digests ls)
value_more x l ls = ap (times x) (map-append digest_at (sites_in l.value) (values_sites ls))
    ∙ times-append x (digests_in l.value) (value_digests ls)

without : (x : Utf8) (l : Disclosed) (ls : List Disclosed) (ys : List Utf8) → times l.digest ys ≡ 0
    → times x (reached_by digests_in (l ∷ ls) ys) ≡ times x (reached_by digests_in ls ys)
without x l ls [] h = refl
without x l ls (y ∷ ys) h = elim (cases_Bool (bytes_eq y l.digest)) [
  | inl same ↦ absurd (omega (arith, one_true (bytes_eq y l.digest) same))
  | inr other ↦
      let apart : bytes_eq l.digest y ≡ false = bytes_eq-flip l.digest y ∙ other in
      let same_found : found y (l ∷ ls) ≡ found y ls = ap (λ b. cond b (Some l) (found y ls)) apart in
      omega (
        arith,
        by_more x digests_in (l ∷ ls) y ys,
        by_more x digests_in ls y ys,
        ap (λ o. times x (from digests_in o)) same_found,
        without x l ls ys (omega (arith, one_false (bytes_eq y l.digest) other)),
      )
]

with_one : (x : Utf8) (l : Disclosed) (ls : List Disclosed) (ys : List Utf8) → times l.digest ys ≤ 1
    → times x (reached_by digests_in (l ∷ ls) ys) ≤ times x (digests_in l.value) + times x
    (reached_by digests_in ls ys)
with_one x l ls [] h = omega arith
with_one x l ls (y ∷ ys) h = elim (cases_Bool (bytes_eq y l.digest)) [
  | inl same ↦
      let here : bytes_eq l.digest y ≡ true = bytes_eq-flip l.digest y ∙ same in
      let first_found : found y (l ∷ ls) ≡ Some l = ap (λ b. cond b (Some l) (found y ls)) here in
      omega (
        arith,
        by_more x digests_in (l ∷ ls) y ys,
        by_more x digests_in ls y ys,
        ap (λ o. times x (from digests_in o)) first_found,
        without x l ls ys (omega (arith, one_true (bytes_eq y l.digest) same)),
      )
  | inr other ↦
      let apart : bytes_eq l.digest y ≡ false = bytes_eq-flip l.digest y ∙ other in
      let same_found : found y (l ∷ ls) ≡ found y ls = ap (λ b. cond b (Some l) (found y ls)) apart in
      omega (
        arith,
        by_more x digests_in (l ∷ ls) y ys,
        by_more x digests_in ls y ys,
        ap (λ o. times x (from digests_in o)) same_found,
        with_one x l ls ys (omega (arith, one_false (bytes_eq y l.digest) other)),
      )
]

-- the values that digests lead to which differ are different values
below_values : (x : Utf8) (ls : List Disclosed) (ys : List Utf8) → ((y : Utf8) → times y ys ≤ 1)
    → times x (reached_by digests_in ls ys) ≤ times x (value_digests ls)
below_values x [] ys h = nothing ys where
  nothing : (ys : List Utf8) → times x (reached_by digests_in [] ys) ≤ 0
  nothing [] = omega arith
  nothing (y ∷ ys) = omega (arith, by_more x digests_in [] y ys, nothing ys)
below_values x (l ∷ ls) ys h =
    omega (arith, with_one x l ls ys (h l.digest), below_values x ls ys h, value_more x l ls)

pub at_most_once : (payload : Data) (ls : List Disclosed)
    → differ (map digest_at (all_sites payload ls)) ≡ true → (n : ℕ) (x : Utf8)
    → times x (reached n ls payload) ≤ 1
at_most_once payload ls apart zero x = omega arith
at_most_once payload ls apart (suc n) x =
    let all : times x (map digest_at (all_sites payload ls)) ≡ times x (digests_in payload) + times x
    (value_digests ls) =
    ap (times x) (map-append digest_at (sites_in payload) (values_sites ls))
    ∙ times-append x (digests_in payload) (value_digests ls) in
    omega (
      arith,
      all,
      differ_times (map digest_at (all_sites payload ls)) apart x,
      expand x n ls payload,
      below_values x ls (reached n ls payload) (at_most_once payload ls apart n),
    )
