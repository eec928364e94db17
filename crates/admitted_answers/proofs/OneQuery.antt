-- The next list of picks for one query.
use Rattle.std.proofs.Common.{◌≡◌, ℕ, ◌+◌, ◌<◌, ◌≤◌, Bool, true, false, cond, List, [], ◌∷◌, Option, Some}
use Rattle.std.proofs.Common.{None, option_map, refl, sym, ap, ◌∙◌, subst, ◌⊎◌, inl, inr, arith, add-one}
use Rattle.std.specs.Prelude.{⊤}
use Rattle.std.specs.Bool.{Decides}
use Rattle.std.specs.List.{AllByRecursion}
use Rattle.std.specs.declared.cmp.Ordering.{Ordering}
use Rattle.std.specs.declared.cmp.Ordering.TheVariants.{Less, Equal, Greater}
use Rattle.std.specs.Ordering.{nat_cmp, ordering_then}
use Rattle.std.proofs.lemmas.Bool.{leb-true, le-leb}
use Rattle.std.proofs.lemmas.Bool.Decides.{Decides-eqb, Decides-ltb, Decides-and, Decides-or, nat_tests}
use Rattle.dcql_answers.specs.declared.pick.Pick.{Pick}
use Rattle.dcql_answers.specs.declared.fits.Fit.{Fit}
use Rattle.admitted_answers.specs.declared.picks.Change.{Change}
use Rattle.dcql_answers.specs.Answer.{pick_cmp, picks_cmp}
use Rattle.answered_sets.specs.Answered.{IsIn}
use Rattle.admitted_answers.specs.Admits.{IsFit}
use Rattle.admitted_answers.specs.Least.{IsLeast, IsLeastOf}
use Rattle.dcql_answers.specs.Fits.{is_from, pick_of, lesser_by, lesser, least_fit}
use Rattle.admitted_answers.specs.code.Search.{first_some, put_at, deeper, later_picks, changed}
use Rattle.dcql_answers.proofs.Orders.{split_then, not_below_itself, pick_order}
use Rattle.admitted_answers.proofs.Pairs.{stays, moves, ends, same_then_less, less_then}

-- ---- the least fit

abbrev pub IsFrom : ℕ → ℕ → Pick → Type 0
IsFrom c s p = (c < p.credential) ⊎ ((p.credential ≡ c) × (s ≤ p.set))

abbrev pub fit_at : ℕ → Pick → Fit
fit_at i p = record { query = i; credential = p.credential; set = p.set }

from_decides : (i c s : ℕ) (f : Fit) → Decides (is_from i c s f) ((f.query ≡ i) × IsFrom c s (pick_of f))
from_decides i c s f =
    Decides-and _ _ (Decides-eqb f.query i)
    (Decides-or _ _ (Decides-ltb c f.credential)
    (Decides-and _ _ (Decides-eqb f.credential c) (leb-true s f.set, le-leb s f.set)))

pub All_at : {A : Type 0} (P : A → Type 0) (x : A) (xs : List A) → AllByRecursion P xs → IsIn x xs → P x
All_at P x [] all h = absurd h
All_at P x (y ∷ ys) all (inl e) = subst P (sym e) all.0
All_at P x (y ∷ ys) all (inr h) = All_at P x ys all.1 h

below_itself : (f : Fit) (i : ℕ) (y : Pick) → fit_at i y ≡ f → pick_cmp y (pick_of f) ≡ Less → ⊥
below_itself f i y e less =
    let same : pick_of f ≡ y = ap pick_of (sym e) in
    not_below_itself pick_order y (subst (λ p. pick_cmp y p ≡ Less) same less)

first_fit : (f : Fit) (fs : List Fit) (i : ℕ) → f.query ≡ i → IsFit (f ∷ fs) i (pick_of f)
first_fit f fs i e =
    let with_query : ℕ → Fit = λ q. record { query = q; credential = f.credential; set = f.set } in
    inl (ap with_query (sym e))

abbrev From : List Fit → ℕ → ℕ → ℕ → Pick → Type 0
From fits i c s p = IsFit fits i p × IsFrom c s p

least_here : (f : Fit) (fs : List Fit) (i c s : ℕ) → is_from i c s f ≡ true → (r : Option Pick)
    → IsLeastOf (From fs i c s) pick_cmp r → IsLeast (From (f ∷ fs) i c s) pick_cmp (lesser (pick_of f) r)
least_here f fs i c s h None none =
    let from = (from_decides i c s f).0 h in
    record {
      is = (first_fit f fs i from.0, from.1);
      none_below = λ y is less. elim is.0 [
        | inl e ↦ below_itself f i y e less
        | inr later ↦ none y (later, is.1)
      ];
    }
least_here f fs i c s h (Some x) least = by (pick_cmp (pick_of f) x) refl where
  from : (f.query ≡ i) × IsFrom c s (pick_of f)
  from = (from_decides i c s f).0 h

  by : (o : Ordering) → pick_cmp (pick_of f) x ≡ o
      → IsLeast (From (f ∷ fs) i c s) pick_cmp (lesser_by o (pick_of f) x)
  by Less e = record {
    is = (first_fit f fs i from.0, from.1);
    none_below = λ y is less. elim is.0 [
      | inl g ↦ below_itself f i y g less
      | inr later ↦ least.none_below y (later, is.1) (pick_order.total.trans y (pick_of f) x less e)
    ];
  }
  by Equal e = record {
    is = (first_fit f fs i from.0, from.1);
    none_below = λ y is less. elim is.0 [
      | inl g ↦ below_itself f i y g less
      | inr later ↦
          let same : pick_of f ≡ x = pick_order.same (pick_of f) x e in
          least.none_below y (later, is.1) (subst (λ p. pick_cmp y p ≡ Less) same less)
    ];
  }
  by Greater e = record {
    is = (inr least.is.0, least.is.1);
    none_below = λ y is less. elim is.0 [
      | inl g ↦
          let same : pick_of f ≡ y = ap pick_of (sym g) in
          let under : pick_cmp (pick_of f) x ≡ Less = subst (λ p. pick_cmp p x ≡ Less) (sym same) less in
          cc (e, under)
      | inr later ↦ least.none_below y (later, is.1) less
    ];
  }

not_here : (f : Fit) (fs : List Fit) (i c s : ℕ) (y : Pick) → is_from i c s f ≡ false → IsFit (f ∷ fs) i y
    → IsFrom c s y → IsFit fs i y
not_here f fs i c s y h (inl e) from =
    let from_f = (from_decides i c s (fit_at i y)).1 (refl, from) in
    let wrong : true ≡ false = sym from_f ∙ ap (is_from i c s) e ∙ h in
    absurd (cc wrong)
not_here f fs i c s y h (inr later) from = later

least_there : (f : Fit) (fs : List Fit) (i c s : ℕ) (r : Option Pick) → is_from i c s f ≡ false
    → IsLeastOf (From fs i c s) pick_cmp r → IsLeastOf (From (f ∷ fs) i c s) pick_cmp r
least_there f fs i c s None h none = λ y is. none y (not_here f fs i c s y h is.0 is.1, is.1)
least_there f fs i c s (Some x) h least = record {
  is = (inr least.is.0, least.is.1);
  none_below = λ y is less. least.none_below y (not_here f fs i c s y h is.0 is.1, is.1) less;
}

least_by : (b : Bool) (f : Fit) (fs : List Fit) (i c s : ℕ) → is_from i c s f ≡ b
    → IsLeastOf (From fs i c s) pick_cmp (least_fit fs i c s)
    → IsLeastOf (From (f ∷ fs) i c s) pick_cmp
    (cond b (Some (lesser (pick_of f) (least_fit fs i c s))) (least_fit fs i c s))
least_by true f fs i c s h rest = least_here f fs i c s h (least_fit fs i c s) rest
least_by false f fs i c s h rest = least_there f fs i c s (least_fit fs i c s) h rest

pub least_fit_is : (fits : List Fit) (i c s : ℕ)
    → IsLeastOf (λ p. IsFit fits i p × IsFrom c s p) pick_cmp (least_fit fits i c s)
least_fit_is [] i c s = λ p is. is.0
least_fit_is (f ∷ fs) i c s = least_by (is_from i c s f) f fs i c s refl (least_fit_is fs i c s)

-- ---- lists of picks whose credentials are not before c

abbrev pub Heads : List Fit → ℕ → ℕ → Pick → Type 0
Heads fits i c p = IsFit fits i p × (c ≤ p.credential)

abbrev pub Valid : List Fit → ℕ → Bool → ℕ → List Pick → Type 0
Valid fits i m c [] = ⊤
Valid fits i m c (p ∷ ps) = Heads fits i c p × ((m ≡ false → ps ≡ []) × Valid fits i m (p.credential + 1) ps)

abbrev pub Tails : List Fit → ℕ → Bool → Pick → List Pick → Type 0
Tails fits i m p ps = (m ≡ false → ps ≡ []) × Valid fits i m (p.credential + 1) ps

after_pair : (a b c d : ℕ) → (a < c) ⊎ ((c ≡ a) × (b + 1 ≤ d))
    → ordering_then (nat_cmp a c) (nat_cmp b d) ≡ Less
after_pair a b c d h = grind (arith, nat_tests)

pair_after : (a b c d : ℕ) → ordering_then (nat_cmp a c) (nat_cmp b d) ≡ Less
    → (a < c) ⊎ ((c ≡ a) × (b + 1 ≤ d))
pair_after a b c d h = grind (arith, nat_tests)

from_start : (c : ℕ) (p : Pick) → c ≤ p.credential → IsFrom c 0 p
from_start c p h = grind arith

start_from : (c : ℕ) (p : Pick) → IsFrom c 0 p → c ≤ p.credential
start_from c p (inl h) = omega arith
start_from c p (inr h) = omega arith

-- the next head
next_head : (fits : List Fit) (i c : ℕ) (p : Pick) → c ≤ p.credential → (r : Option Pick)
    → IsLeastOf (λ x. IsFit fits i x × IsFrom p.credential (p.set + 1) x) pick_cmp r
    → IsLeastOf (λ x. Heads fits i c x × (pick_cmp p x ≡ Less)) pick_cmp r
next_head fits i c p low None none = λ y is. none y
    (is.0.0, pair_after p.credential p.set y.credential y.set is.1)
next_head fits i c p low (Some x) least =
    let after = after_pair p.credential p.set x.credential x.set least.is.1 in
    let from : c ≤ x.credential = elim least.is.1 [ inl more ↦ omega arith | inr same ↦ omega arith ] in
    record {
      is = ((least.is.0, from), after);
      none_below = λ y is less. least.none_below y
          (is.0.0, pair_after p.credential p.set y.credential y.set is.1) less;
    }

none_below_empty : (ys : List Pick) → picks_cmp ys [] ≡ Less → ⊥
none_below_empty [] h = cc h
none_below_empty (y ∷ ys) h = cc h

empty_is_least : (fits : List Fit) (i : ℕ) (m : Bool) (p : Pick) → IsLeast (Tails fits i m p) picks_cmp []
empty_is_least fits i m p = record {
  is = ((λ e. refl), tt);
  none_below =
      λ y is less. none_below_empty y less;
}

-- the least list with a pick
first_list : (fits : List Fit) (i : ℕ) (m : Bool) (c : ℕ) (r : Option Pick)
    → IsLeastOf (λ p. IsFit fits i p × IsFrom c 0 p) pick_cmp r
    → IsLeastOf (λ ys. Valid fits i m c ys × (picks_cmp [] ys ≡ Less)) picks_cmp
    (option_map (changed []) (option_map (put_at 0) r))
first_list fits i m c None none = over where
  over : (ys : List Pick) → Valid fits i m c ys × (picks_cmp [] ys ≡ Less) → ⊥
  over [] h = cc (h.1)
  over (y ∷ ys) h = none y (h.0.0.0, from_start c y h.0.0.1)
first_list fits i m c (Some x) least = record {
  is =
      (((least.is.0, start_from c x least.is.1), ((λ e. refl), tt)), refl);
  none_below = below;
} where
  below : (ys : List Pick) → Valid fits i m c ys × (picks_cmp [] ys ≡ Less) → picks_cmp ys (x ∷ []) ≡ Less → ⊥
  below [] h k = cc (h.1)
  below (y ∷ ys) h k = elim (split_then _ _ k) [
    | inl less ↦ least.none_below y (h.0.0.0, from_start c y h.0.0.1) less
    | inr even ↦ none_below_empty ys even.1
  ]

changed_deeper : (p : Pick) (ps : List Pick) (ch : Change) → changed (p ∷ ps) (deeper ch) ≡ p ∷ changed ps ch
changed_deeper p ps ch = rw add-one refl

-- the next list after one with a pick, from what comes of its tail and of its head
next_list : (fits : List Fit) (i : ℕ) (m : Bool) (c : ℕ) (p : Pick) (ps : List Pick)
    → Valid fits i m c (p ∷ ps)
    → (r : Option Change) → IsLeastOf (λ ys. Tails fits i m p ys × (picks_cmp ps ys ≡ Less)) picks_cmp
    (option_map (changed ps) r)
    → (f : Option Pick) → IsLeastOf (λ x. Heads fits i c x × (pick_cmp p x ≡ Less)) pick_cmp f
    → IsLeastOf (λ ys. Valid fits i m c ys × (picks_cmp (p ∷ ps) ys ≡ Less)) picks_cmp
    (option_map (changed (p ∷ ps)) (first_some (option_map deeper r) (option_map (put_at 0) f)))
next_list fits i m c p ps valid (Some ch) least f head =
    subst (IsLeast (λ ys. Valid fits i m c ys × (picks_cmp (p ∷ ps) ys ≡ Less)) picks_cmp)
    (sym (changed_deeper p ps ch))
    (record { is = ((valid.0, least.is.0), same_then_less pick_order p _ least.is.1); none_below = below })
  where
    below : (ys : List Pick) → Valid fits i m c ys × (picks_cmp (p ∷ ps) ys ≡ Less)
        → picks_cmp ys (p ∷ changed ps ch) ≡ Less → ⊥
    below [] h k = cc (h.1)
    below (y ∷ ys) h k = stays pick_order (Heads fits i c) (Tails fits i m) p ps (changed ps ch)
        least y ys h.0.1 h.1 k
next_list fits i m c p ps valid None none (Some x) head =
    record { is = ((head.is.0, ((λ e. refl), tt)), less_then _ _ head.is.1); none_below = below } where
      below : (ys : List Pick) → Valid fits i m c ys × (picks_cmp (p ∷ ps) ys ≡ Less)
          → picks_cmp ys (x ∷ []) ≡ Less → ⊥
      below [] h k = cc (h.1)
      below (y ∷ ys) h k = moves pick_order (Heads fits i c) (Tails fits i m) p x ps [] none head
          (empty_is_least fits i m x) y ys h.0.0 h.0.1 h.1 k
next_list fits i m c p ps valid None none None over = last where
  last : (ys : List Pick) → Valid fits i m c ys × (picks_cmp (p ∷ ps) ys ≡ Less) → ⊥
  last [] h = cc (h.1)
  last (y ∷ ys) h = ends picks_cmp pick_order (Heads fits i c) (Tails fits i m)
      p ps none over y ys h.0.0 h.0.1 h.1

-- with one pick at most nothing extends a list
tail_of_one : (fits : List Fit) (i : ℕ) (p : Pick) (ps : List Pick) → Tails fits i false p ps
    → (ys : List Pick) → Tails fits i false p ys × (picks_cmp ps ys ≡ Less) → ⊥
tail_of_one fits i p ps tails ys h =
    let e : ps ≡ [] = tails.0 refl in
    let f : ys ≡ [] = h.0.0 refl in
    let less : picks_cmp [] [] ≡ Less = subst (λ xs. picks_cmp xs [] ≡ Less) e
    (subst (λ xs. picks_cmp ps xs ≡ Less) f h.1) in
    cc less

-- the tail of a list goes on like the tails that are wanted of its head
tails_next : (fits : List Fit) (i : ℕ) (p : Pick) (ps : List Pick) (r : Option (List Pick))
    → IsLeastOf (λ ys. Valid fits i true (p.credential + 1) ys × (picks_cmp ps ys ≡ Less)) picks_cmp r
    → IsLeastOf (λ ys. Tails fits i true p ys × (picks_cmp ps ys ≡ Less)) picks_cmp r
tails_next fits i p ps None none = λ ys h. none ys (h.0.1, h.1)
tails_next fits i p ps (Some t) least = record {
  is = (((λ e. absurd (cc e)), least.is.0), least.is.1);
  none_below = λ ys h less. least.none_below ys (h.0.1, h.1) less;
}

pub later_picks_is : (fits : List Fit) → (i : ℕ) (m : Bool) (c : ℕ) (ps : List Pick) → Valid fits i m c ps
    → IsLeastOf (λ ys. Valid fits i m c ys × (picks_cmp ps ys ≡ Less)) picks_cmp
    (option_map (changed ps) (later_picks fits i m c ps))
later_picks_is fits i m c [] valid = first_list fits i m c (least_fit fits i c 0) (least_fit_is fits i c 0)
later_picks_is fits i true c (p ∷ ps) valid =
    next_list fits i true c p ps valid (later_picks fits i true (p.credential + 1) ps)
    (tails_next fits i p ps _ (later_picks_is fits i true (p.credential + 1) ps valid.1.1))
    (least_fit fits i p.credential (p.set + 1))
    (next_head fits i c p valid.0.1 _ (least_fit_is fits i p.credential (p.set + 1)))
later_picks_is fits i false c (p ∷ ps) valid =
    next_list fits i false c p ps valid None (tail_of_one fits i p ps valid.1)
    (least_fit fits i p.credential (p.set + 1))
    (next_head fits i c p valid.0.1 _ (least_fit_is fits i p.credential (p.set + 1)))
