-- The next answer: the next lists of the same answered set, else the least of the next set that can be
-- answered.
use Rattle.std.proofs.Common.{◌≡◌, ℕ, ◌+◌, ◌*◌, ◌/◌, ◌%◌, ◌^◌, ◌<◌, ◌≤◌, suc, Bool, true, false, cond, List}
use Rattle.std.proofs.Common.{[], ◌∷◌, map, length, Option, Some, None, option_map, MatchOption, refl, sym}
use Rattle.std.proofs.Common.{ap, ap₂, ◌∙◌, subst, ◌↔◌, arith}
use Rattle.std.specs.Prelude.{⊤, ◌==◌, bit_and}
use Rattle.std.specs.declared.cmp.Ordering.TheVariants.{Less}
use Rattle.std.specs.Ordering.{ordering_then}
use Rattle.std.proofs.lemmas.Bool.{and_parts, and_from, eqb-true, eq-eqb}
use Rattle.std.proofs.Math.Pow.{pow_mono}
use Rattle.std.proofs.lemmas.List.{length-map}
use Rattle.dcql_answers.specs.declared.pick.Pick.{Pick}
use Rattle.dcql_answers.specs.declared.fits.Fit.{Fit}
use Rattle.admitted_answers.specs.declared.lists.Spot.{Spot}
use Rattle.admitted_answers.specs.declared.steps.Step.TheVariants.{Onto}
use Rattle.dcql_query.specs.Query.{Credential, Query}
use Rattle.dcql_answers.specs.Answer.{answered, sets_cmp, answer_cmp}
use Rattle.admitted_answers.specs.Admits.{bits_of, ArePickLists, Admits}
use Rattle.answered_sets.specs.Answered.{IsAnswered}
use Rattle.admitted_answers.specs.Least.{IsLeast, IsNone, IsLeastOf, Follows}
use Rattle.admitted_answers.specs.code.Search.{least_list, least_lists, later_lists, parts_from, lists_of}
use Rattle.admitted_answers.specs.code.Search.{rank_of}
use Rattle.admitted_answers.specs.code.Search.{set_at, fitting}
use Rattle.admitted_answers.specs.code.Step.{reached}
use Rattle.answered_sets.specs.Table.{holds, Tells}
use Rattle.admitted_answers.specs.code.Sets.{is_open, IsNoSet, IsFirstSet}
use Rattle.dcql_answers.proofs.Orders.{sets_order}
use Rattle.admitted_answers.proofs.Pairs.{stays, moves, ends, begins, same_then_less, less_then}
use Rattle.admitted_answers.proofs.SameSet.{lists_cmp, AllListsOf, Fillable, fillable, After, later_lists_is}
use Rattle.admitted_answers.proofs.SameSet.{least_lists_is}
use Rattle.admitted_answers.proofs.Ranks.{flags_at, rank_flags, set_at_bits, length_flags, rank_below}
use Rattle.admitted_answers.proofs.Ranks.{rank_answered, flags_rank, rank_flags_at, less_rank, rank_less}
use Rattle.admitted_answers.proofs.Ranks.{fits_bits, bits_below}

-- ---- the sets that can be answered

pub record Opens (q : Query) (fits : List Fit) (bs : List Bool) : Type 0 where
  pub long : length bs ≡ length q.credentials
  pub set : IsAnswered q (bits_of bs)
  pub fill : Fillable fits 0 q.credentials bs

bits_fit : (n : ℕ) (bs : List Bool) → length bs ≡ n → n ≤ 16 → bits_of bs < 2 ^ 16
bits_fit n bs e h =
    let low : bits_of bs < 2 ^ length bs = bits_below bs in
    let short : length bs ≤ 16 = omega arith in
    let all : 2 ^ length bs ≤ 2 ^ 16 = pow_mono {i = length bs} {j = 16} short in
    omega arith

opens : (q : Query) (fits : List Fit) (words : List ℕ) → length q.credentials ≤ 16 → Tells q words
    → (bs : List Bool) → length bs ≡ length q.credentials
    → (is_open words (fitting fits 0 q.credentials) (bits_of bs) ≡ true) ↔ Opens q fits bs
opens q fits words few tells bs long = (there, back) where
  low : bits_of bs < 2 ^ 16
  low = bits_fit (length q.credentials) bs long few

  there : is_open words (fitting fits 0 q.credentials) (bits_of bs) ≡ true → Opens q fits bs
  there h =
      let both = and_parts (holds words (bits_of bs))
      (bit_and (bits_of bs) (fitting fits 0 q.credentials) == bits_of bs) h in
      record {
        long = long;
        set = (tells (bits_of bs) low).0 both.0;
        fill =
            (fits_bits fits 0 q.credentials bs long).0 (eqb-true _ _ both.1);
      }

  back : Opens q fits bs → is_open words (fitting fits 0 q.credentials) (bits_of bs) ≡ true
  back h = and_from _ _ ((tells (bits_of bs) low).1 h.set)
      (eq-eqb _ _ ((fits_bits fits 0 q.credentials bs long).1 h.fill))

-- the least lists by the bits of a set
parity : (b : Bool) (n : ℕ) → ((cond b 1 0 + 2 * n) % 2 == 1) ≡ b
parity true n = eq-eqb _ _ (omega arith)
parity false n = let e : (0 + 2 * n) % 2 ≡ 0 = omega arith in ap (λ x. x == 1) e

halved : (b : Bool) (n : ℕ) → (cond b 1 0 + 2 * n) / 2 ≡ n
halved true n = omega arith
halved false n = omega arith

lists_of_bits : (fits : List Fit) (i : ℕ) (bs : List Bool)
    → lists_of fits i (length bs) (bits_of bs) ≡ least_lists fits i bs
lists_of_bits fits i [] = refl
lists_of_bits fits i (b ∷ bs) =
    ap₂ (λ x xs. x ∷ xs) (ap (least_list fits i) (parity b (bits_of bs)))
    (ap (lists_of fits (i + 1) (length bs)) (halved b (bits_of bs)) ∙ lists_of_bits fits (i + 1) bs)

-- ---- the least open set of those that are wanted, which are those from a rank on

abbrev Wanted : Query → List Fit → (List Bool → Type 0) → List Bool → Type 0
Wanted q fits L bs = Opens q fits bs × L bs

none_open : (q : Query) (fits : List Fit) (words : List ℕ) (from : ℕ) (L : List Bool → Type 0)
    → length q.credentials ≤ 16 → Tells q words
    → ((bs : List Bool) → length bs ≡ length q.credentials → L bs → from ≤ rank_flags bs)
    → (end : ℕ) → IsNoSet words (fitting fits 0 q.credentials) q.credentials from end → (bs : List Bool)
    → Wanted q fits L bs → rank_flags bs < end → ⊥
none_open q fits words from L few tells past end none bs h low =
    let long = h.0.long in
    let e : set_at q.credentials (rank_flags bs) ≡ bits_of bs = set_at_bits q.credentials (rank_flags bs)
    ∙ ap bits_of (flags_rank q.credentials bs long) in
    let shut = none (rank_flags bs) (past bs long h.1) low in
    let is : is_open words (fitting fits 0 q.credentials) (bits_of bs) ≡ true =
    (opens q fits words few tells bs long).1 h.0 in
    let wrong : true ≡ false = sym is ∙ ap (is_open words (fitting fits 0 q.credentials)) (sym e) ∙ shut in
    cc wrong

-- what the search for a set gives
abbrev pub IsSetOf : Query → List Fit → (List Bool → Type 0) → ℕ → Type 0
IsSetOf q fits L s = (bs : List Bool) × (s ≡ bits_of bs) × IsLeast (Wanted q fits L) sets_cmp bs

first_open : (q : Query) (fits : List Fit) (words : List ℕ) (from : ℕ) (L : List Bool → Type 0)
    → length q.credentials ≤ 16 → Tells q words
    → ((bs : List Bool) → length bs ≡ length q.credentials → L bs → from ≤ rank_flags bs)
    → ((bs : List Bool) → length bs ≡ length q.credentials → from ≤ rank_flags bs → L bs)
    → (s : ℕ) → IsFirstSet words (fitting fits 0 q.credentials) q.credentials from s → IsSetOf q fits L s
first_open q fits words from L few tells past past_back s h =
    let bs = flags_at q.credentials h.rank in
    let long : length bs ≡ length q.credentials = length_flags q.credentials h.rank in
    let rank : rank_flags bs ≡ h.rank = rank_flags_at q.credentials h.rank h.high in
    let bits : s ≡ bits_of bs = h.is ∙ set_at_bits q.credentials h.rank in
    let is = (opens q fits words few tells bs long).0
    (ap (is_open words (fitting fits 0 q.credentials)) (sym bits) ∙ h.opens) in (
      bs,
      bits,
      record {
        is = (is, past_back bs long (subst (λ r. from ≤ r) (sym rank) h.low));
        none_below = λ cs k less.
            none_open q fits words from L few tells past h.rank h.first cs k
            (subst (λ r. rank_flags cs < r) rank (less_rank cs bs (k.0.long ∙ sym long) less));
      },
    )

-- ---- the answer

lists_admitted : (q : Query) (fits : List Fit) → (y : List (List Pick)) → Admits q fits y
    → Opens q fits (answered y)
lists_admitted q fits y h =
    let fill = fillable fits 0 q.credentials y h.lists in
    record { long = long q.credentials (answered y) 0 fill; set = h.set; fill = fill } where
      long : (ms : List Credential) (bs : List Bool) (i : ℕ) → Fillable fits i ms bs → length bs ≡ length ms
      long [] [] i f = refl
      long [] (b ∷ bs) i f = absurd f
      long (m ∷ ms) [] i f = absurd f
      long (m ∷ ms) (b ∷ bs) i f = ap suc (long ms bs (i + 1) f.1)

-- within the answered set
pub within : (q : Query) (fits : List Fit) (a x : List (List Pick)) → Admits q fits a
    → IsLeast (After fits 0 q.credentials a) lists_cmp x
    → IsLeast (Follows (Admits q fits) answer_cmp (Some a)) answer_cmp x
within q fits a x admitted least =
    let same : answered x ≡ answered a = least.is.0.1 in
    record {
      is = (
        record {
          lists = least.is.0.0;
          set =
              subst (λ bs. IsAnswered q (bits_of bs)) (sym same) admitted.set;
        },
        subst (λ bs. ordering_then (sets_cmp (answered a) bs) (lists_cmp a x) ≡ Less) (sym same)
            (same_then_less sets_order (answered a) _ least.is.1),
      );
      none_below = λ y h less.
          stays sets_order (Opens q fits) (AllListsOf fits 0 q.credentials) (answered a) a x least
          (answered y) y (h.0.lists, refl) h.1
          (subst (λ bs. ordering_then (sets_cmp (answered y) bs) (lists_cmp y x) ≡ Less) same less);
    }

-- onto another set
pub onto_next : (q : Query) (fits : List Fit) → (a : List (List Pick)) → Admits q fits a
    → IsNone (After fits 0 q.credentials a)
    → (bs : List Bool) → IsLeast (Wanted q fits (λ cs. sets_cmp (answered a) cs ≡ Less)) sets_cmp bs
    → IsLeast (Follows (Admits q fits) answer_cmp (Some a)) answer_cmp (least_lists fits 0 bs)
onto_next q fits a admitted none bs head =
    let tail = least_lists_is fits 0 q.credentials bs head.is.0.fill in
    let same : answered (least_lists fits 0 bs) ≡ bs = tail.is.1 in
    record {
      is = (
        record { lists = tail.is.0; set = subst (λ cs. IsAnswered q (bits_of cs)) (sym same) head.is.0.set },
        subst (λ cs. ordering_then (sets_cmp (answered a) cs) (lists_cmp a (least_lists fits 0 bs)) ≡ Less)
            (sym same) (less_then _ _ head.is.1),
      );
      none_below = λ y h less.
          moves sets_order (Opens q fits) (AllListsOf fits 0 q.credentials) (answered a) bs a
          (least_lists fits 0 bs) none head tail (answered y) y
          (lists_admitted q fits y h.0) (h.0.lists, refl) h.1
          (subst (λ cs. ordering_then (sets_cmp (answered y) cs) (lists_cmp y (least_lists fits 0 bs)) ≡ Less)
          same less);
    }

pub onto_none : (q : Query) (fits : List Fit) → (a : List (List Pick)) → IsNone (After fits 0 q.credentials a)
    → IsNone (Wanted q fits (λ cs. sets_cmp (answered a) cs ≡ Less))
    → IsNone (Follows (Admits q fits) answer_cmp (Some a))
onto_none q fits a none over =
    λ y h. ends lists_cmp sets_order (Opens q fits) (AllListsOf fits 0 q.credentials) (answered a) a none over
    (answered y) y (lists_admitted q fits y h.0) (h.0.lists, refl) h.1

pub onto_first : (q : Query) (fits : List Fit) → (bs : List Bool)
    → IsLeast (Wanted q fits (λ cs. ⊤)) sets_cmp bs
    → IsLeast (Follows (Admits q fits) answer_cmp None) answer_cmp (least_lists fits 0 bs)
onto_first q fits bs head =
    let tail = least_lists_is fits 0 q.credentials bs head.is.0.fill in
    let same : answered (least_lists fits 0 bs) ≡ bs = tail.is.1 in
    let least : IsLeast (Opens q fits) sets_cmp bs =
    record { is = head.is.0; none_below = λ cs k less. head.none_below cs (k, tt) less } in
    record {
      is = (
        record {
          lists = tail.is.0;
          set =
              subst (λ cs. IsAnswered q (bits_of cs)) (sym same) head.is.0.set;
        },
        tt,
      );
      none_below = λ y h less.
          begins sets_order (Opens q fits) (AllListsOf fits 0 q.credentials) bs (least_lists fits 0 bs)
          least tail (answered y) y
          (lists_admitted q fits y h.0) (h.0.lists, refl)
          (subst (λ cs. ordering_then (sets_cmp (answered y) cs) (lists_cmp y (least_lists fits 0 bs)) ≡ Less)
          same less);
    }

-- ---- the steps

onto_lists : (q : Query) (fits : List Fit) (s : ℕ) (bs : List Bool) → s ≡ bits_of bs
    → length bs ≡ length q.credentials → least_lists fits 0 bs ≡ lists_of fits 0 (length q.credentials) s
onto_lists q fits s bs e long =
    sym (ap₂ (lists_of fits 0) (sym long) e ∙ lists_of_bits fits 0 bs)

abbrev Searched : Query → List Fit → List ℕ → ℕ → Option ℕ → Type 0
Searched q fits words from r = MatchOption r
    (IsNoSet words (fitting fits 0 q.credentials) q.credentials from (2 ^ length q.credentials))
    (IsFirstSet words (fitting fits 0 q.credentials) q.credentials from)

below_all : (q : Query) (bs : List Bool) → length bs ≡ length q.credentials
    → rank_flags bs < 2 ^ length q.credentials
below_all q bs long = subst (λ n. rank_flags bs < 2 ^ n) long (rank_below bs)

pub first_is : (q : Query) (fits : List Fit) (words : List ℕ) → length q.credentials ≤ 16 → Tells q words
    → (r : Option ℕ) → Searched q fits words 0 r
    → IsLeastOf (Follows (Admits q fits) answer_cmp None) answer_cmp
    (option_map (reached fits (length q.credentials) []) (option_map Onto r))
first_is q fits words few tells None none =
    λ y h. let o = lists_admitted q fits y h.0 in none_open q fits words 0 (λ bs. ⊤) few tells
    (λ bs long l. omega arith) (2 ^ length q.credentials) none (answered y) (o, tt)
    (below_all q (answered y) o.long)
first_is q fits words few tells (Some s) first =
    let found = first_open q fits words 0 (λ bs. ⊤) few tells (λ bs long l. omega arith) (λ bs long l. tt)
    s first in
    by found where
      by : IsSetOf q fits (λ bs. ⊤) s → IsLeast (Follows (Admits q fits) answer_cmp None) answer_cmp
          (lists_of fits 0 (length q.credentials) s)
      by (bs, bits, least) = subst (IsLeast (Follows (Admits q fits) answer_cmp None) answer_cmp)
          (onto_lists q fits s bs bits least.is.0.long) (onto_first q fits bs least)

past_rank : (q : Query) (a : List (List Pick)) → length (answered a) ≡ length q.credentials → (bs : List Bool)
    → length bs ≡ length q.credentials → sets_cmp (answered a) bs ≡ Less → rank_of a + 1 ≤ rank_flags bs
past_rank q a e bs long less = let low = less_rank (answered a) bs (e ∙ sym long) less in let r =
    rank_answered a in omega arith

rank_past : (q : Query) (a : List (List Pick)) → length (answered a) ≡ length q.credentials → (bs : List Bool)
    → length bs ≡ length q.credentials → rank_of a + 1 ≤ rank_flags bs → sets_cmp (answered a) bs ≡ Less
rank_past q a e bs long low = let r = rank_answered a in rank_less (answered a) bs (e
    ∙ sym long) (omega arith)

pub next_set_is : (q : Query) (fits : List Fit) (words : List ℕ) → length q.credentials ≤ 16 → Tells q words
    → (a : List (List Pick)) → Admits q fits a → IsNone (After fits 0 q.credentials a) → (r : Option ℕ)
    → Searched q fits words (rank_of a + 1) r
    → IsLeastOf (Follows (Admits q fits) answer_cmp (Some a)) answer_cmp
    (option_map (reached fits (length q.credentials) a) (option_map Onto r))
next_set_is q fits words few tells a admitted over None none =
    let long = (lists_admitted q fits a admitted).long in
    onto_none q fits a over (λ bs h. none_open q fits words (rank_of a + 1)
    (λ cs. sets_cmp (answered a) cs ≡ Less) few tells (past_rank q a long) (2 ^ length q.credentials)
    none bs h (below_all q bs h.0.long))
next_set_is q fits words few tells a admitted over (Some s) first =
    let long = (lists_admitted q fits a admitted).long in
    let found = first_open q fits words (rank_of a + 1) (λ cs. sets_cmp (answered a) cs ≡ Less) few tells
    (past_rank q a long) (rank_past q a long) s first in
    by found where
      by : IsSetOf q fits (λ cs. sets_cmp (answered a) cs ≡ Less) s
          → IsLeast (Follows (Admits q fits) answer_cmp (Some a)) answer_cmp
          (lists_of fits 0 (length q.credentials) s)
      by (bs, bits, least) = subst (IsLeast (Follows (Admits q fits) answer_cmp (Some a)) answer_cmp)
          (onto_lists q fits s bs bits least.is.0.long) (onto_next q fits a admitted over bs least)

-- the step within the answered set, where there is one
pub spot_is : (q : Query) (fits : List Fit) → (a : List (List Pick)) → Admits q fits a → (s : Spot)
    → later_lists fits 0 q.credentials a ≡ Some s
    → IsLeast (Follows (Admits q fits) answer_cmp (Some a)) answer_cmp (parts_from fits 0 s a)
spot_is q fits a admitted s e =
    within q fits a _ admitted (subst (λ r. IsLeastOf (After fits 0 q.credentials a) lists_cmp
    (option_map (λ t. parts_from fits 0 t a) r)) e (later_lists_is fits 0 q.credentials a admitted.lists))

pub no_spot : (q : Query) (fits : List Fit) → (a : List (List Pick)) → Admits q fits a
    → later_lists fits 0 q.credentials a ≡ None → IsNone (After fits 0 q.credentials a)
no_spot q fits a admitted e =
    subst (λ r. IsLeastOf (After fits 0 q.credentials a) lists_cmp
    (option_map (λ t. parts_from fits 0 t a) r)) e (later_lists_is fits 0 q.credentials a admitted.lists)

-- ---- the same at the values that the code reads

abbrev pub SearchedIn : List Credential → List Fit → List ℕ → ℕ → Option ℕ → Type 0
SearchedIn ms fits words from r = MatchOption r (IsNoSet words (fitting fits 0 ms) ms from (2 ^ length ms))
    (IsFirstSet words (fitting fits 0 ms) ms from)

pub searched : (q : Query) (ms : List Credential) (fits : List Fit) (words : List ℕ) (m n : ℕ) (r : Option ℕ)
    → ms ≡ q.credentials → m ≡ n → SearchedIn ms fits words m r → Searched q fits words n r
searched q ms fits words m n r e g h =
    subst (λ k. SearchedIn q.credentials fits words k r) g (subst (λ l. SearchedIn l fits words m r) e h)

pub spot_read : (q : Query) (ms : List Credential) (fits : List Fit) (b a : List (List Pick))
    (r s : Option Spot)
    → ms ≡ q.credentials → b ≡ a → s ≡ later_lists fits 0 ms b → s ≡ r
    → later_lists fits 0 q.credentials a ≡ r
spot_read q ms fits b a r s e g h k =
    ap₂ (later_lists fits 0) (sym e) (sym g) ∙ sym h ∙ k

pub length_admitted : (fits : List Fit) (i : ℕ) (ms : List Credential) (a : List (List Pick))
    → ArePickLists fits i ms a → length a ≡ length ms
length_admitted fits i [] [] h = refl
length_admitted fits i [] (ps ∷ a) h = absurd h
length_admitted fits i (m ∷ ms) [] h = absurd h
length_admitted fits i (m ∷ ms) (ps ∷ a) h = ap suc (length_admitted fits (i + 1) ms a h.1)

pub few_lists : {A : Type 0} (f : A → List Pick) (q : Query) (fits : List Fit) (xs : List A)
    (a : List (List Pick)) → length q.credentials ≤ 16 → map f xs ≡ a → Admits q fits a → length xs ≤ 16
few_lists f q fits xs a few e h = let l = length_admitted fits 0 q.credentials a h.lists in let m =
    ap length e in let n = length-map xs f in omega arith

pub rank_fits : (n r : ℕ) → n ≤ 16 → r < 2 ^ n → r + 1 < 2 ^ 32
rank_fits n r few low = let all : 2 ^ n ≤ 2 ^ 16 = pow_mono {i = n} {j = 16} few in omega arith

-- an admitted answer has a list for each credential query
pub as_long : (q : Query) (fits : List Fit) (a : List (List Pick)) → Admits q fits a
    → length a ≡ length q.credentials
as_long q fits a h = length_admitted fits 0 q.credentials a h.lists
