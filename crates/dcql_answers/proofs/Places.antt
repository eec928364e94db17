-- The least fit from some places on stands at the first fit that is not before them.
use Rattle.std.proofs.Common.{◌≡◌, ℕ, zero, suc, ◌+◌, ◌<◌, ◌≤◌, true, false, List, [], ◌∷◌, length, Option}
use Rattle.std.proofs.Common.{Bor, Some, None, refl, sym, ap, ◌∙◌, inl, inr, arith, slice_get, get_or}
use Rattle.std.proofs.Common.{if◌then◌else◌}
use Rattle.std.specs.Prelude.{◌==◌, Bool, ⊤, nat_lt, is_some, IfSome}
use Rattle.std.specs.Option.{option_copied}
use Rattle.std.specs.List.{AllByRecursion}
use Rattle.std.specs.List.Sorted.{IsStrictlySortedBy, IsPartitionedBy, IsPartitionPoint}
use Rattle.std.specs.declared.cmp.Ordering.{Ordering}
use Rattle.std.specs.declared.cmp.Ordering.TheVariants.{Less, Equal, Greater}
use Rattle.std.proofs.lemmas.Option.{slice_get_past, slice_get-get_or}
use Rattle.std.proofs.lemmas.Bool.{cases_eq, eq-eqb, ne_eqb}
use Rattle.std.proofs.lemmas.Bool.Decides.{nat_tests}
use Rattle.dcql_answers.specs.declared.pick.Pick.{Pick}
use Rattle.dcql_answers.specs.declared.fits.Fit.{Fit}
use Rattle.dcql_answers.specs.Answer.{pick_cmp}
use Rattle.dcql_answers.specs.Fits.{fit_cmp, pick_of, is_from, lesser_by, lesser, least_fit}
use Rattle.dcql_answers.specs.code.Places.{is_before, pick_for}

-- ---- one fit

not_from : (i c s : ℕ) (f : Fit) → is_before i c s f ≡ true → is_from i c s f ≡ false
not_from i c s f h = grind (arith, nat_tests)

from_here : (i c s : ℕ) (f : Fit) → is_before i c s f ≡ false → f.query ≡ i → is_from i c s f ≡ true
from_here i c s f h e = grind (arith, nat_tests)

later_query : (i c s : ℕ) (f : Fit) → is_before i c s f ≡ false → (f.query ≡ i → ⊥) → i < f.query
later_query i c s f h e = grind (arith, nat_tests)

of_later : (i c s : ℕ) (f : Fit) → i < f.query → is_from i c s f ≡ false
of_later i c s f h = grind (arith, nat_tests)

queries_rise : (f g : Fit) → fit_cmp f g ≡ Less → f.query ≤ g.query
queries_rise f g h = grind (arith, nat_tests)

before_too : (i c s : ℕ) (f g : Fit) → fit_cmp f g ≡ Less → is_before i c s g ≡ true
    → is_before i c s f ≡ true
before_too i c s f g h k = grind (arith, nat_tests)

-- ---- all fits

at_index : {A : Type 0} (P : A → Type 0) (xs : List A) (i : ℕ) (d : A) → AllByRecursion P xs → i < length xs
    → P (get_or xs i d)
at_index P [] i d all h = absurd (omega arith)
at_index P (x ∷ xs) zero d all h = all.0
at_index P (x ∷ xs) (suc i) d all h = at_index P xs i d all.1 (omega arith)

pub parted : (fits : List Fit) → IsStrictlySortedBy fit_cmp fits → (i c s : ℕ)
    → IsPartitionedBy (is_before i c s) fits
unfolding IsStrictlySortedBy
parted [] sorted i c s m n d h k b = absurd (omega arith)
parted (f ∷ fs) sorted i c s zero zero d h k b = b
parted (f ∷ fs) sorted i c s zero (suc n) d h k b =
    before_too i c s f (get_or fs n d) (at_index (λ g. fit_cmp f g ≡ Less) fs n d sorted.0 (omega arith)) b
parted (f ∷ fs) sorted i c s (suc m) zero d h k b = absurd (omega arith)
parted (f ∷ fs) sorted i c s (suc m) (suc n) d h k b =
    parted fs sorted.1 i c s m n d (omega arith) (omega arith) b

-- ---- the first that is not before

none_later : (i c s : ℕ) (fs : List Fit) → AllByRecursion (λ g. i < g.query) fs → least_fit fs i c s ≡ None
none_later i c s [] all = refl
none_later i c s (f ∷ fs) all =
    ap (λ t. if t then Some (lesser (pick_of f) (least_fit fs i c s)) else least_fit fs i c s)
    (of_later i c s f all.0)
    ∙ none_later i c s fs all.1

all_later : (i : ℕ) (f : Fit) (fs : List Fit) → i < f.query → AllByRecursion (λ g. fit_cmp f g ≡ Less) fs
    → AllByRecursion (λ g. i < g.query) fs
all_later i f [] h all = tt
all_later i f (g ∷ fs) h all =
    let e : f.query ≤ g.query = queries_rise f g all.0 in
    (omega arith, all_later i f fs h all.1)

-- p is before what is picked, if anything is
abbrev IsLess : Pick → Option Pick → Type 0
IsLess p None = ⊤
IsLess p (Some r) = pick_cmp p r ≡ Less

less_both : (p r : Pick) (o : Option Pick) → pick_cmp p r ≡ Less → IsLess p o → IsLess p (Some (lesser r o))
less_both p r None h k = h
less_both p r (Some t) h k = by (pick_cmp r t) where
  by : (o : Ordering) → pick_cmp p (lesser_by o r t) ≡ Less
  by Less = h
  by Equal = h
  by Greater = k

less_picks : (f g : Fit) → fit_cmp f g ≡ Less → f.query ≡ g.query → pick_cmp (pick_of f) (pick_of g) ≡ Less
less_picks f g h e = grind (arith, nat_tests)

of_query : (i c s : ℕ) (f : Fit) → is_from i c s f ≡ true → f.query ≡ i
of_query i c s f h = grind (arith, nat_tests)

less_if : (i c s : ℕ) (f g : Fit) (t : Bool) (o : Option Pick) → f.query ≡ i → fit_cmp f g ≡ Less
    → is_from i c s g ≡ t → IsLess (pick_of f) o
    → IsLess (pick_of f) (if t then Some (lesser (pick_of g) o) else o)
less_if i c s f g true o e h k less =
    less_both (pick_of f) (pick_of g) o (less_picks f g h (e ∙ sym (of_query i c s g k))) less
less_if i c s f g false o e h k less = less

less_later : (i c s : ℕ) (f : Fit) (fs : List Fit) → f.query ≡ i → AllByRecursion (λ g. fit_cmp f g ≡ Less) fs
    → IsLess (pick_of f) (least_fit fs i c s)
less_later i c s f [] e all = tt
less_later i c s f (g ∷ fs) e all =
    less_if i c s f g (is_from i c s g) (least_fit fs i c s) e all.0 refl (less_later i c s f fs e all.1)

lesser_is : (p : Pick) (o : Option Pick) → IsLess p o → lesser p o ≡ p
lesser_is p None h = refl
lesser_is p (Some r) h = ap (λ o. lesser_by o p r) h

first_is : (i c s : ℕ) (f : Fit) (fs : List Fit) → AllByRecursion (λ g. fit_cmp f g ≡ Less) fs
    → is_before i c s f ≡ false → least_fit (f ∷ fs) i c s ≡ pick_for i (Some f)
first_is i c s f fs all h = elim (cases_eq f.query i) [
  | inl e ↦
      ap (λ t. if t then Some (lesser (pick_of f) (least_fit fs i c s)) else least_fit fs i c s)
      (from_here i c s f h e)
      ∙ ap Some (lesser_is (pick_of f) (least_fit fs i c s) (less_later i c s f fs e all))
      ∙ sym (ap (λ t. if t then Some (pick_of f) else None) (eq-eqb f.query i e))
  | inr e ↦
      let far = later_query i c s f h e in
      ap (λ t. if t then Some (lesser (pick_of f) (least_fit fs i c s)) else least_fit fs i c s)
      (of_later i c s f far)
      ∙ none_later i c s fs (all_later i f fs far all)
      ∙ sym (ap (λ t. if t then Some (pick_of f) else None) (ne_eqb f.query i e))
]

pub found : (fits : List Fit) → IsStrictlySortedBy fit_cmp fits → (i c s n : ℕ)
    → IsPartitionPoint (λ f. is_before i c s f ≡ true) (λ f. is_before i c s f ≡ false) fits n
    → least_fit fits i c s ≡ pick_for i (slice_get fits n)
unfolding IsStrictlySortedBy
found [] sorted i c s n parts = refl
found (f ∷ fs) sorted i c s zero parts =
    first_is i c s f fs sorted.0 (parts.1 0 f (omega arith) (omega arith))
found (f ∷ fs) sorted i c s (suc n) parts =
    ap (λ t. if t then Some (lesser (pick_of f) (least_fit fs i c s)) else least_fit fs i c s)
    (not_from i c s f (parts.0 0 f (omega arith) (omega arith)))
    ∙ found fs sorted.1 i c s n (
      (λ k d low high. parts.0 (suc k) d (omega arith) (omega arith)),
      (λ k d low high. parts.1 (suc k) d (omega arith) (omega arith)),
    )

-- what a look-up at a place gives
pub looked_up : (r : Option (Bor Fit)) (fits : List Fit) (n : ℕ) → is_some r ≡ nat_lt n (length fits)
    → IfSome r (λ f. f.now ≡ get_or fits n f.now) → option_copied r ≡ slice_get fits n
looked_up None fits n none is =
    let past : length fits ≤ n = grind (arith, nat_tests) in
    sym (slice_get_past fits n past)
looked_up (Some f) fits n some is =
    let within : n < length fits = grind (arith, nat_tests) in
    ap Some is ∙ sym (slice_get-get_or fits n f.now within)
