-- The next answer with the same answered queries.
use Rattle.std.proofs.Common.{◌≡◌, ℕ, ◌+◌, ◌<◌, ◌≤◌, Bool, true, false, cond, List, [], ◌∷◌, Option, Some}
use Rattle.std.proofs.Common.{None, option_map, is_some, refl, sym, ap, ap₂, subst, arith}
use Rattle.std.specs.Prelude.{⊤, nat_lt, ◌==◌}
use Rattle.std.specs.declared.cmp.Ordering.{Ordering}
use Rattle.std.specs.declared.cmp.Ordering.TheVariants.{Less}
use Rattle.std.specs.Option.{option_to_list}
use Rattle.std.specs.Cmp.Lexicographic.{slice_cmp}
use Rattle.std.proofs.lemmas.Bool.{lt-ltb, le-ltb, eq-eqb, ne_eqb}
use Rattle.dcql_answers.specs.declared.pick.Pick.{Pick}
use Rattle.dcql_answers.specs.declared.fits.Fit.{Fit}
use Rattle.dcql_query.specs.Query.{Credential}
use Rattle.admitted_answers.specs.declared.picks.Change.{Change}
use Rattle.admitted_answers.specs.declared.lists.Spot.{Spot}
use Rattle.dcql_answers.specs.Answer.{picks_cmp, is_answered, answered}
use Rattle.admitted_answers.specs.Admits.{IsPickList, ArePickLists}
use Rattle.admitted_answers.specs.Least.{IsLeast, IsLeastOf}
use Rattle.dcql_answers.specs.Fits.{least_fit}
use Rattle.admitted_answers.specs.code.Search.{first_some, later_picks, changed, least_list, least_lists}
use Rattle.admitted_answers.specs.code.Search.{at_query}
use Rattle.admitted_answers.specs.code.Search.{later_lists, part, parts_from}
use Rattle.dcql_answers.proofs.Orders.{picks_order}
use Rattle.admitted_answers.proofs.Pairs.{stays, moves, ends, begins, same_then_less, less_then}
use Rattle.admitted_answers.proofs.OneQuery.{Valid, later_picks_is}
use Rattle.admitted_answers.proofs.Spelled.{valid, spelled, no_picks}

abbrev pub lists_cmp : List (List Pick) → List (List Pick) → Ordering
lists_cmp = slice_cmp picks_cmp

-- pick lists of a query that are answered as b says, and of the queries from i on as bs says
abbrev pub ListsOf : List Fit → ℕ → Bool → Bool → List Pick → Type 0
ListsOf fits i m b ps = IsPickList fits i m ps × (is_answered ps ≡ b)

abbrev pub AllListsOf : List Fit → ℕ → List Credential → List Bool → List (List Pick) → Type 0
AllListsOf fits i ms bs a = ArePickLists fits i ms a × (answered a ≡ bs)

-- the queries that bs answers have fits
abbrev pub Fillable : List Fit → ℕ → List Credential → List Bool → Type 0
Fillable fits i [] [] = ⊤
Fillable fits i (m ∷ ms) (b ∷ bs) = (b ≡ true → is_some (least_fit fits i 0 0) ≡ true)
    × Fillable fits (i + 1) ms bs
Fillable fits i [] (b ∷ bs) = ⊥
Fillable fits i (m ∷ ms) [] = ⊥

-- ---- the least

answered_after_none : (ps : List Pick) → is_answered ps ≡ true → picks_cmp [] ps ≡ Less
answered_after_none [] h = absurd (cc h)
answered_after_none (p ∷ ps) h = refl

after_is_answered : (p : Pick) (ps qs : List Pick) → picks_cmp (p ∷ ps) qs ≡ Less → is_answered qs ≡ true
after_is_answered p ps [] h = absurd (cc h)
after_is_answered p ps (q ∷ qs) h = refl

none_answered : (ps : List Pick) → picks_cmp [] ps ≡ Less → is_answered ps ≡ true
none_answered [] h = absurd (cc h)
none_answered (p ∷ ps) h = refl

none_before_none : (ps : List Pick) → picks_cmp ps [] ≡ Less → ⊥
none_before_none [] h = cc h
none_before_none (p ∷ ps) h = cc h

-- in the words of pick lists
respelled : (fits : List Fit) (i : ℕ) (m : Bool) (ps : List Pick) (r : Option (List Pick))
    → IsLeastOf (λ ys. Valid fits i m 0 ys × (picks_cmp ps ys ≡ Less)) picks_cmp r
    → IsLeastOf (λ ys. IsPickList fits i m ys × (picks_cmp ps ys ≡ Less)) picks_cmp r
respelled fits i m ps None none = λ ys h. none ys (valid fits i m ys h.0, h.1)
respelled fits i m ps (Some x) least = record {
  is = (spelled fits i m x least.is.0, least.is.1);
  none_below = λ ys h less. least.none_below ys (valid fits i m ys h.0, h.1) less;
}

some_picks : (fits : List Fit) (i : ℕ) (m : Bool) (r : Option Pick) → is_some r ≡ true
    → IsLeastOf (λ ys. IsPickList fits i m ys × (picks_cmp [] ys ≡ Less)) picks_cmp
    (option_map (λ p. p ∷ []) r)
    → IsLeast (ListsOf fits i m true) picks_cmp (option_to_list r)
some_picks fits i m None e h = absurd (cc e)
some_picks fits i m (Some p) e least = record {
  is = (least.is.0, refl);
  none_below = λ ys h less. least.none_below ys (h.0, answered_after_none ys h.1) less;
}

first_map : (r : Option Pick) → option_map (changed [])
    (option_map (λ p. let c : Change = record { kept = 0; pick = p } in c) r) ≡ option_map (λ p. p ∷ []) r
first_map None = refl
first_map (Some p) = refl

least_list_is : (fits : List Fit) → (i : ℕ) (m b : Bool) → (b ≡ true → is_some (least_fit fits i 0 0) ≡ true)
    → IsLeast (ListsOf fits i m b) picks_cmp (least_list fits i b)
least_list_is fits i m false some = record {
  is = (no_picks fits i m, refl);
  none_below =
      λ ys h less. none_before_none ys less;
}
least_list_is fits i m true some =
    some_picks fits i m (least_fit fits i 0 0) (some refl)
    (subst (IsLeastOf (λ ys. IsPickList fits i m ys × (picks_cmp [] ys ≡ Less)) picks_cmp)
    (first_map (least_fit fits i 0 0))
    (respelled fits i m [] _ (later_picks_is fits i m 0 [] tt)))

pub least_lists_is : (fits : List Fit) → (i : ℕ) (ms : List Credential) (bs : List Bool)
    → Fillable fits i ms bs → IsLeast (AllListsOf fits i ms bs) lists_cmp (least_lists fits i bs)
least_lists_is fits i [] [] fill = record { is = (tt, refl); none_below = below } where
  below : (a : List (List Pick)) → AllListsOf fits i [] [] a → lists_cmp a [] ≡ Less → ⊥
  below [] h less = cc less
  below (ps ∷ a) h less = h.0
least_lists_is fits i (m ∷ ms) (b ∷ bs) fill =
    let head = least_list_is fits i m.multiple b fill.0 in
    let rest = least_lists_is fits (i + 1) ms bs fill.1 in
    record {
      is = ((head.is.0, rest.is.0), ap₂ (λ x xs. x ∷ xs) head.is.1 rest.is.1);
      none_below =
          below head rest;
    } where
      below : IsLeast (ListsOf fits i m.multiple b) picks_cmp (least_list fits i b)
          → IsLeast (AllListsOf fits (i + 1) ms bs) lists_cmp (least_lists fits (i + 1) bs)
          → (a : List (List Pick)) → AllListsOf fits i (m ∷ ms) (b ∷ bs) a
          → lists_cmp a (least_lists fits i (b ∷ bs)) ≡ Less → ⊥
      below head rest [] h less = h.0
      below head rest (ps ∷ a) h less =
          let e : is_answered ps ≡ b = cc (h.1) in
          let f : answered a ≡ bs = cc (h.1) in
          begins picks_order (ListsOf fits i m.multiple b) (λ x. AllListsOf fits (i + 1) ms bs)
          (least_list fits i b) (least_lists fits (i + 1) bs) head rest ps a (h.0.0, e) (h.0.1, f) less
least_lists_is fits i [] (b ∷ bs) fill = absurd fill
least_lists_is fits i (m ∷ ms) [] fill = absurd fill

-- the queries that an answer answers have fits
some_fit : (fits : List Fit) → (i : ℕ) (m : Bool) (r : Option Pick)
    → IsLeastOf (λ ys. IsPickList fits i m ys × (picks_cmp [] ys ≡ Less)) picks_cmp
    (option_map (λ p. p ∷ []) r)
    → (ps : List Pick) → IsPickList fits i m ps → is_answered ps ≡ true → is_some r ≡ true
some_fit fits i m None none ps h e = absurd (none ps (h, answered_after_none ps e))
some_fit fits i m (Some p) least ps h e = refl

pub fillable : (fits : List Fit) → (i : ℕ) (ms : List Credential) (a : List (List Pick))
    → ArePickLists fits i ms a → Fillable fits i ms (answered a)
fillable fits i [] [] h = tt
fillable fits i [] (ps ∷ a) h = absurd h
fillable fits i (m ∷ ms) [] h = absurd h
fillable fits i (m ∷ ms) (ps ∷ a) h =
    let first = subst (IsLeastOf (λ ys. IsPickList fits i m.multiple ys × (picks_cmp [] ys ≡ Less)) picks_cmp)
    (first_map (least_fit fits i 0 0))
    (respelled fits i m.multiple [] _ (later_picks_is fits i m.multiple 0 [] tt)) in
    ((λ e. some_fit fits i m.multiple (least_fit fits i 0 0) first ps h.0 e), fillable fits (i + 1) ms a h.1)

-- ---- the next

-- the next list of an answered query
next_answered : (fits : List Fit) (i : ℕ) (m : Bool) (p : Pick) (ps : List Pick) (r : Option (List Pick))
    → IsLeastOf (λ ys. IsPickList fits i m ys × (picks_cmp (p ∷ ps) ys ≡ Less)) picks_cmp r
    → IsLeastOf (λ ys. ListsOf fits i m true ys × (picks_cmp (p ∷ ps) ys ≡ Less)) picks_cmp r
next_answered fits i m p ps None none = λ ys h. none ys (h.0.0, h.1)
next_answered fits i m p ps (Some x) least = record {
  is = ((least.is.0, after_is_answered p ps x least.is.1), least.is.1);
  none_below = λ ys h less. least.none_below ys (h.0.0, h.1) less;
}

next_unanswered : (fits : List Fit) (i : ℕ) (m : Bool) (ys : List Pick)
    → ListsOf fits i m false ys × (picks_cmp [] ys ≡ Less) → ⊥
next_unanswered fits i m ys h = let a = none_answered ys h.1 in cc (a, h.0.1)

-- the parts from a query on that is after the spot are the least
parts_after : (fits : List Fit) (i : ℕ) (s : Spot) (a : List (List Pick)) → s.query < i
    → parts_from fits i s a ≡ least_lists fits i (answered a)
parts_after fits i s [] h = refl
parts_after fits i s (ps ∷ a) h =
    let e : nat_lt i s.query ≡ false = le-ltb i s.query (omega arith) in
    let f : (i == s.query) ≡ false = ne_eqb i s.query (λ x. omega arith) in
    ap₂ (λ x xs. x ∷ xs) (rw (e, f) refl) (parts_after fits (i + 1) s a (omega arith))

part_before : (fits : List Fit) (i : ℕ) (s : Spot) (ps : List Pick) → i < s.query → part fits i s ps ≡ ps
part_before fits i s ps h = let e : nat_lt i s.query ≡ true = lt-ltb i s.query h in rw e refl

part_at : (fits : List Fit) (i : ℕ) (c : Change) (ps : List Pick)
    → part fits i (at_query i c) ps ≡ changed ps c
part_at fits i c ps =
    let e : nat_lt i i ≡ false = le-ltb i i (omega arith) in
    let f : (i == i) ≡ true = eq-eqb i i refl in
    rw (e, f) refl

-- a spot is not before the query that the search began with
abbrev Beyond : ℕ → Option Spot → Type 0
Beyond i None = ⊤
Beyond i (Some s) = i ≤ s.query

beyond_first : (i : ℕ) (r : Option Spot) (f : Option Change) → Beyond (i + 1) r
    → Beyond i (first_some r (option_map (at_query i) f))
beyond_first i (Some s) f h = omega arith
beyond_first i None (Some c) h = omega arith
beyond_first i None None h = tt

-- what the search looks at in one query
abbrev own : List Fit → ℕ → Bool → List Pick → Option Change
own fits i m [] = None
own fits i m (p ∷ ps) = later_picks fits i m 0 (p ∷ ps)

own_is : (fits : List Fit) (i : ℕ) (m : Bool) (ps : List Pick)
    → cond (is_answered ps) (option_map (at_query i) (later_picks fits i m 0 ps)) None ≡ option_map
    (at_query i) (own fits i m ps)
own_is fits i m [] = refl
own_is fits i m (p ∷ ps) = refl

beyond : (fits : List Fit) (i : ℕ) (ms : List Credential) (a : List (List Pick))
    → Beyond i (later_lists fits i ms a)
beyond fits i [] a = tt
beyond fits i (m ∷ ms) [] = tt
beyond fits i (m ∷ ms) (ps ∷ a) =
    subst (λ f. Beyond i (first_some (later_lists fits (i + 1) ms a) f)) (sym (own_is fits i m.multiple ps))
    (beyond_first i (later_lists fits (i + 1) ms a) (own fits i m.multiple ps) (beyond fits (i + 1) ms a))

own_next : (fits : List Fit) → (i : ℕ) (m : Bool) (ps : List Pick) → IsPickList fits i m ps
    → IsLeastOf (λ ys. ListsOf fits i m (is_answered ps) ys × (picks_cmp ps ys ≡ Less)) picks_cmp
    (option_map (changed ps) (own fits i m ps))
own_next fits i m [] h = next_unanswered fits i m
own_next fits i m (p ∷ ps) h = next_answered fits i m p ps _
    (respelled fits i m (p ∷ ps) _ (later_picks_is fits i m 0 (p ∷ ps) (valid fits i m (p ∷ ps) h)))

abbrev pub After : List Fit → ℕ → List Credential → List (List Pick) → List (List Pick) → Type 0
After fits i ms a b = AllListsOf fits i ms (answered a) b × (lists_cmp a b ≡ Less)

-- the next lists, from what comes of those after the first and of the first
next_lists : (fits : List Fit) (i : ℕ) (m : Credential) (ms : List Credential) (ps : List Pick)
    (a : List (List Pick)) → IsPickList fits i m.multiple ps
    → (r : Option Spot) → Beyond (i + 1) r
    → IsLeastOf (After fits (i + 1) ms a) lists_cmp (option_map (λ s. parts_from fits (i + 1) s a) r)
    → (f : Option Change) → IsLeastOf (λ ys. ListsOf fits i m.multiple (is_answered ps) ys
    × (picks_cmp ps ys ≡ Less)) picks_cmp (option_map (changed ps) f)
    → IsLeast (AllListsOf fits (i + 1) ms (answered a)) lists_cmp (least_lists fits (i + 1) (answered a))
    → IsLeastOf (After fits i (m ∷ ms) (ps ∷ a)) lists_cmp
    (option_map (λ s. parts_from fits i s (ps ∷ a)) (first_some r (option_map (at_query i) f)))
next_lists fits i m ms ps a h (Some s) far least f head begin =
    subst (IsLeast (After fits i (m ∷ ms) (ps ∷ a)) lists_cmp)
    (ap (λ x. x ∷ parts_from fits (i + 1) s a) (sym (part_before fits i s ps (omega arith))))
    (record {
      is = (
        ((h, least.is.0.0), ap (λ bs. is_answered ps ∷ bs) least.is.0.1),
        same_then_less picks_order ps _ least.is.1,
      );
      none_below = below;
    }) where
      below : (b : List (List Pick)) → After fits i (m ∷ ms) (ps ∷ a) b
          → lists_cmp b (ps ∷ parts_from fits (i + 1) s a) ≡ Less → ⊥
      below [] k less = k.0.0
      below (qs ∷ b) k less =
          let e : answered b ≡ answered a = cc (k.0.1) in
          stays picks_order (ListsOf fits i m.multiple (is_answered ps))
          (λ x. AllListsOf fits (i + 1) ms (answered a)) ps a (parts_from fits (i + 1) s a) least qs b
          (k.0.0.1, e) k.1 less
next_lists fits i m ms ps a h None far none (Some c) head begin =
    subst (IsLeast (After fits i (m ∷ ms) (ps ∷ a)) lists_cmp)
    (ap₂ (λ x xs. x ∷ xs) (sym (part_at fits i c ps))
    (sym (parts_after fits (i + 1) (at_query i c) a (omega arith))))
    (record {
      is = (
        ((head.is.0.0, begin.is.0), ap₂ (λ x xs. x ∷ xs) head.is.0.1 begin.is.1),
        less_then _ _ head.is.1,
      );
      none_below = below;
    }) where
      below : (b : List (List Pick)) → After fits i (m ∷ ms) (ps ∷ a) b
          → lists_cmp b (changed ps c ∷ least_lists fits (i + 1) (answered a)) ≡ Less → ⊥
      below [] k less = k.0.0
      below (qs ∷ b) k less =
          let d : is_answered qs ≡ is_answered ps = cc (k.0.1) in
          let e : answered b ≡ answered a = cc (k.0.1) in
          moves picks_order (ListsOf fits i m.multiple (is_answered ps))
          (λ x. AllListsOf fits (i + 1) ms (answered a)) ps (changed ps c) a
          (least_lists fits (i + 1) (answered a)) none head begin qs b (k.0.0.0, d) (k.0.0.1, e) k.1 less
next_lists fits i m ms ps a h None far none None over begin = last where
  last : (b : List (List Pick)) → After fits i (m ∷ ms) (ps ∷ a) b → ⊥
  last [] k = k.0.0
  last (qs ∷ b) k =
      let d : is_answered qs ≡ is_answered ps = cc (k.0.1) in
      let e : answered b ≡ answered a = cc (k.0.1) in
      ends lists_cmp picks_order (ListsOf fits i m.multiple (is_answered ps))
      (λ x. AllListsOf fits (i + 1) ms (answered a)) ps a none over qs b (k.0.0.0, d) (k.0.0.1, e) k.1

pub later_lists_is : (fits : List Fit) → (i : ℕ) (ms : List Credential) (a : List (List Pick))
    → ArePickLists fits i ms a
    → IsLeastOf (After fits i ms a) lists_cmp
    (option_map (λ s. parts_from fits i s a) (later_lists fits i ms a))
later_lists_is fits i [] [] h = last where
  last : (b : List (List Pick)) → After fits i [] [] b → ⊥
  last [] k = cc (k.1)
  last (qs ∷ b) k = k.0.0
later_lists_is fits i [] (ps ∷ a) h = absurd h
later_lists_is fits i (m ∷ ms) [] h = absurd h
later_lists_is fits i (m ∷ ms) (ps ∷ a) h =
    subst (λ f. IsLeastOf (After fits i (m ∷ ms) (ps ∷ a)) lists_cmp
    (option_map (λ s. parts_from fits i s (ps ∷ a)) (first_some (later_lists fits (i + 1) ms a) f)))
    (sym (own_is fits i m.multiple ps))
    (next_lists fits i m ms ps a h.0 (later_lists fits (i + 1) ms a) (beyond fits (i + 1) ms a)
    (later_lists_is fits (i + 1) ms a h.1)
    (own fits i m.multiple ps) (own_next fits i m.multiple ps h.0)
    (least_lists_is fits (i + 1) ms (answered a) (fillable fits (i + 1) ms a h.1)))
