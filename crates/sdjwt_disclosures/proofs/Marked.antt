-- Marking the disclosures that are walked to.
use Rattle.std.proofs.Common.{◌≡◌, ℕ, zero, suc, ◌<◌, Bool, true, false, ◌&&◌, ◌||◌, not, List, [], ◌∷◌}
use Rattle.std.proofs.Common.{◌++◌, length, map, drop, get_or, set, Option, Some, None, option_map, refl}
use Rattle.std.proofs.Common.{sym, ap, ap₂, ◌+◌, ◌-◌, ◌∙◌, arith, inl, inr, Vec, Global}
use Rattle.std.proofs.lemmas.List.{length-map, drop_more}
use Rattle.std.specs.Prelude.{replicate}
use Rattle.std.specs.List.{list_all}
use Rattle.std.specs.Str.{bytes_eq}
use Rattle.std.proofs.lemmas.Bool.{cases_Bool}
use Rattle.std.proofs.lemmas.List.Folds.{list_any-append}
use Rattle.serde_json.specs.Data.{Data}
use Rattle.base_forms.specs.Texts.{Utf8, is_among, differ}
use Rattle.base_forms.proofs.Differing.{same_from, bytes_eq-flip}
use Rattle.sdjwt_digests.specs.Disclosures.{Disclosed, found}
use Rattle.sdjwt_digests.specs.DigestSites.{Site, digest_at, sites_in}
use Rattle.sdjwt_digests.specs.code.Indexes.{first_index}
use Rattle.sdjwt_digests.specs.code.Disclosures.{site_of, sites_said}
use Rattle.sdjwt_digests.specs.declared.digest_sites.Site.{Site as OwnSite}
use Rattle.sdjwt_disclosures.specs.Reachable.{reached, reached_by, are_reached}
use Rattle.sdjwt_disclosures.specs.code.Marked.{marked, walked, walked_by, walked_from}
use Rattle.sdjwt_disclosures.specs.code.Marked.{walked_into, all_walked}

-- ---- marks

or_false : (b : Bool) → (b || false) ≡ b
or_false true = refl
or_false false = refl

or_assoc : (a b c : Bool) → ((a || b) || c) ≡ (a || (b || c))
or_assoc true b c = refl
or_assoc false b c = refl

pub marked_none : (ls : List Disclosed) (bs : List Bool) → marked [] ls bs ≡ bs
marked_none [] bs = refl
marked_none (l ∷ ls) [] = refl
marked_none (l ∷ ls) (b ∷ bs) = ap₂ (λ c cs. c ∷ cs) (or_false b) (marked_none ls bs)

pub marked_more : (xs ys : List Utf8) (ls : List Disclosed) (bs : List Bool)
    → marked ys ls (marked xs ls bs) ≡ marked (xs ++ ys) ls bs
marked_more xs ys [] bs = refl
marked_more xs ys (l ∷ ls) [] = refl
marked_more xs ys (l ∷ ls) (b ∷ bs) = ap₂ (λ c cs. c ∷ cs)
    (or_assoc b (is_among l.digest xs) (is_among l.digest ys)
    ∙ ap (λ c. b || c) (sym (list_any-append (λ y. bytes_eq y l.digest) xs ys)))
    (marked_more xs ys ls bs)

pub marked_length : (xs : List Utf8) (ls : List Disclosed) (bs : List Bool)
    → length (marked xs ls bs) ≡ length bs
marked_length xs [] bs = refl
marked_length xs (l ∷ ls) [] = refl
marked_length xs (l ∷ ls) (b ∷ bs) = ap (λ n. suc n) (marked_length xs ls bs)

-- ---- one mark

abbrev digests : List Disclosed → List Utf8
digests ls = map (λ l. l.digest) ls

neither : (a b : Bool) → (a || b) ≡ false → (a ≡ false) × (b ≡ false)
neither true b h = absurd (cc h)
neither false b h = (refl, h)

apart : (a b : Bool) → (not a && b) ≡ true → (a ≡ false) × (b ≡ true)
apart true b h = absurd (cc h)
apart false b h = (refl, h)

later : (o : Option ℕ) (i : ℕ) → option_map suc o ≡ Some i → (j : ℕ) × (o ≡ Some j) × (i ≡ suc j)
later None i h = absurd (cc h)
later (Some j) i h = (j, refl, cc h)

-- a digest that none of them has marks none
pub marked_absent : (x : Utf8) (ls : List Disclosed) (bs : List Bool) → is_among x (digests ls) ≡ false
    → marked (x ∷ []) ls bs ≡ bs
marked_absent x [] bs h = refl
marked_absent x (l ∷ ls) [] h = refl
marked_absent x (l ∷ ls) (b ∷ bs) h =
    let p : (bytes_eq l.digest x ≡ false) × (is_among x (digests ls) ≡ false) = neither _ _ h in
    ap₂ (λ c cs. c ∷ cs)
    (ap (λ c. b || (c || false)) (bytes_eq-flip x l.digest ∙ p.0) ∙ or_false b)
    (marked_absent x ls bs p.1)

pub within : (x : Utf8) (ls : List Disclosed) (i : ℕ) → first_index x (digests ls) ≡ Some i → i < length ls
within x [] i h = absurd (cc h)
within x (l ∷ ls) i h = elim (cases_Bool (bytes_eq l.digest x)) [
  | inl same ↦ let first : Some 0 ≡ Some i = (rw same at h) in
      let zero_is : i ≡ 0 = cc first in omega (arith, zero_is)
  | inr other ↦ let p = later (first_index x (digests ls)) i (rw other at h) in
      let rest = within x ls p.0 p.1 in omega (arith, rest, p.2)
]

or_true : (b : Bool) → (b || true) ≡ true
or_true true = refl
or_true false = refl

-- the digest of one of them marks that one
pub marked_one : (x : Utf8) (ls : List Disclosed) (bs : List Bool) (i : ℕ) → differ (digests ls) ≡ true
    → first_index x (digests ls) ≡ Some i → length bs ≡ length ls
    → set bs i true ≡ marked (x ∷ []) ls bs
marked_one x [] bs i d h n = absurd (cc h)
marked_one x (l ∷ ls) [] i d h n = absurd (cc n)
marked_one x (l ∷ ls) (b ∷ bs) i d h n =
    let a : (is_among l.digest (digests ls) ≡ false) × (differ (digests ls) ≡ true) = apart _ _ d in
    let lengths : length bs ≡ length ls = omega (arith, n) in
    elim (cases_Bool (bytes_eq l.digest x)) [
      | inl same ↦ let first : Some 0 ≡ Some i = (rw same at h) in
          let zero_is : i ≡ 0 = cc first in
          let is : l.digest ≡ x = same_from l.digest x same in
          ap (λ k. set (b ∷ bs) k true) zero_is
          ∙ sym (ap₂ (λ c cs. c ∷ cs)
          (ap (λ c. b || (c || false)) (bytes_eq-flip x l.digest ∙ same) ∙ or_true b)
          (marked_absent x ls bs (ap (λ y. is_among y (digests ls)) (sym is) ∙ a.0)))
      | inr other ↦ let p = later (first_index x (digests ls)) i (rw other at h) in
          ap (λ k. set (b ∷ bs) k true) p.2
          ∙ ap₂ (λ c cs. c ∷ cs)
          (sym (ap (λ c. b || (c || false)) (bytes_eq-flip x l.digest ∙ other) ∙ or_false b))
          (marked_one x ls bs p.0 a.1 p.1 lengths)
    ]

-- ---- the value of the disclosure that is found

-- the sites at the place of a digest are those of its disclosure's value
walked_found : (x : Utf8) (ls : List Disclosed) (vs : List (Vec OwnSite Global)) (i : ℕ)
    (v : Vec OwnSite Global) (F : List Site → List Utf8) → map sites_said vs ≡ map (λ l. sites_in l.value) ls
    → first_index x (digests ls) ≡ Some i → v ≡ get_or vs i v
    → walked_into (λ d. F (sites_in d)) (found x ls) ≡ F (sites_said v)
walked_found x [] vs i v F s h g = absurd (cc h)
walked_found x (l ∷ ls) [] i v F s h g = absurd (cc s)
walked_found x (l ∷ ls) (w ∷ vs) i v F s h g =
    let first_is : sites_said w ≡ sites_in l.value = cc s in
    let rest_is : map sites_said vs ≡ map (λ l. sites_in l.value) ls = cc s in
    elim (cases_Bool (bytes_eq l.digest x)) [
      | inl same ↦ let first : Some 0 ≡ Some i = (rw same at h) in
          let zero_is : i ≡ 0 = cc first in
          let v_is : v ≡ w = g ∙ ap (λ k. get_or (w ∷ vs) k v) zero_is in
          rw same (ap F (sym first_is ∙ ap sites_said (sym v_is)))
      | inr other ↦ let p = later (first_index x (digests ls)) i (rw other at h) in
          rw other (walked_found x ls vs p.0 v F rest_is p.1
          (g ∙ ap (λ k. get_or (w ∷ vs) k v) p.2))
    ]

no_later : (o : Option ℕ) → option_map suc o ≡ None → o ≡ None
no_later None h = refl
no_later (Some i) h = absurd (cc h)

pub not_found : (x : Utf8) (ls : List Disclosed) → first_index x (digests ls) ≡ None
    → (found x ls ≡ None) × (is_among x (digests ls) ≡ false)
not_found x [] h = (refl, refl)
not_found x (l ∷ ls) h = elim (cases_Bool (bytes_eq l.digest x)) [
  | inl same ↦ absurd (cc (rw same at h))
  | inr other ↦ let rest : first_index x (digests ls) ≡ None = no_later _ (rw other at h) in
      let p = not_found x ls rest in rw other p
]

-- ---- steps of the walk

-- one more site
pub loop_step : (n : ℕ) (ls : List Disclosed) (sites : List OwnSite) (i : ℕ) (d : OwnSite)
    (start all first : List Bool) → i < length sites
    → all ≡ marked (walked_from n ls (site_of (get_or sites i d))) ls start
    → marked (walked_by (λ d. walked n ls (sites_in d)) ls (map site_of (drop i sites))) ls start ≡ first
    → marked (walked_by (λ d. walked n ls (sites_in d)) ls (map site_of (drop (i + 1) sites))) ls all ≡ first
loop_step n ls sites i d start all first below h left =
    let F : List OwnSite → List Utf8 = λ ss. walked_by (λ d. walked n ls (sites_in d)) ls (map site_of ss) in
    ap (marked (F (drop (i + 1) sites)) ls) h
    ∙ marked_more (walked_from n ls (site_of (get_or sites i d))) (F (drop (i + 1) sites)) ls start
    ∙ ap (λ ss. marked (F ss) ls start) (sym (drop_more sites i d below)) ∙ left

pub one_more : (n : ℕ) → n + 1 ≡ suc n
one_more n = omega arith

pub kept_length : (xs : List Utf8) (ls : List Disclosed) (start all : List Bool) → all ≡ marked xs ls start
    → length start ≡ length ls → length all ≡ length ls
kept_length xs ls start all h k = ap length h ∙ marked_length xs ls start ∙ k

-- a site whose digest no disclosure has
pub site_absent : (n : ℕ) (ls : List Disclosed) (p : Site) (start : List Bool)
    → first_index (digest_at p) (digests ls) ≡ None → start ≡ marked (walked_from n ls p) ls start
site_absent n ls p start h =
    let o = not_found (digest_at p) ls h in
    sym (ap (λ d. marked (digest_at p ∷ walked_into (λ d. walked n ls (sites_in d)) d) ls start) o.0
    ∙ marked_absent (digest_at p) ls start o.1)

-- a site whose digest a disclosure has, and what is reached from its value
pub site_found : (n : ℕ) (ls : List Disclosed) (p : Site) (vs : List (Vec OwnSite Global)) (i : ℕ)
    (v : Vec OwnSite Global) (start one all : List Bool)
    → differ (digests ls) ≡ true → map sites_said vs ≡ map (λ l. sites_in l.value) ls
    → length start ≡ length ls → first_index (digest_at p) (digests ls) ≡ Some i
    → one ≡ set start i true → v ≡ get_or vs i v → all ≡ marked (walked n ls (sites_said v)) ls one
    → all ≡ marked (walked_from n ls p) ls start
site_found n ls p vs i v start one all d s k h w g a =
    let x = digest_at p in
    let into = walked_into (λ d. walked n ls (sites_in d)) (found x ls) in
    a ∙ ap (λ xs. marked xs ls one) (sym (walked_found x ls vs i v (walked n ls) s h g))
    ∙ ap (marked into ls) (w ∙ marked_one x ls start i d h k)
    ∙ marked_more (x ∷ []) into ls start

pub absent_if : (o : Option ℕ) → ((i : ℕ) → o ≡ Some i → ⊥) → o ≡ None
absent_if None h = refl
absent_if (Some i) h = absurd (h i refl)

pub no_steps : (n : ℕ) (ls : List Disclosed) (ps : List Site) (bs : List Bool) → n ≡ 0
    → bs ≡ marked (walked n ls ps) ls bs
no_steps n ls ps bs h = rw h (sym (marked_none ls bs))

pub more_steps : (n : ℕ) (ls : List Disclosed) (ps : List Site) (bs : List Bool) → n ≡ suc (n - 1)
    → marked (walked_by (λ d. walked (n - 1) ls (sites_in d)) ls ps) ls bs ≡ marked (walked n ls ps) ls bs
more_steps n ls ps bs h = sym (ap (λ k. marked (walked k ls ps) ls bs) h)

pub index_within : (x : Utf8) (ls : List Disclosed) (vs : List (Vec OwnSite Global)) (bs : List Bool) (i : ℕ)
    → map sites_said vs ≡ map (λ l. sites_in l.value) ls → length bs ≡ length ls
    → first_index x (digests ls) ≡ Some i → (i < length vs) × (i < length bs)
index_within x ls vs bs i s k h =
    let below = within x ls i h in
    let same : length vs ≡ length ls =
    sym (length-map vs sites_said) ∙ ap length s ∙ length-map ls (λ l. sites_in l.value) in
    (omega (arith, below, same), omega (arith, below, k))

-- ---- what is walked to is reached

swap : (a b c : Bool) → (a || (b || c)) ≡ (b || (a || c))
swap true true c = refl
swap true false c = refl
swap false b c = refl

into_reached : (y : Utf8) (f g : Data → List Utf8) (o : Option Disclosed)
    → ((d : Data) → is_among y (f d) ≡ is_among y (g d))
    → is_among y (walked_into f o) ≡ is_among y (elim o [ None ↦ [] | Some l ↦ g l.value ])
into_reached y f g None h = refl
into_reached y f g (Some l) h = h l.value

by_reached : (y : Utf8) (f g : Data → List Utf8) (ls : List Disclosed) (ps : List Site)
    → ((d : Data) → is_among y (f d) ≡ is_among y (g d))
    → is_among y (walked_by f ls ps) ≡ is_among y (map digest_at ps ++ reached_by g ls (map digest_at ps))
by_reached y f g ls [] h = refl
by_reached y f g ls (p ∷ ps) h =
    let test : Utf8 → Bool = λ z. bytes_eq z y in
    let into : List Utf8 = elim (found (digest_at p) ls) [ None ↦ [] | Some l ↦ g l.value ] in
    let own = map digest_at ps in
    let more = reached_by g ls own in
    ap (λ b. bytes_eq (digest_at p) y || b)
    (list_any-append test (walked_into f (found (digest_at p) ls)) (walked_by f ls ps)
    ∙ ap₂ (λ a b. a || b) (into_reached y f g (found (digest_at p) ls) h)
    (by_reached y f g ls ps h ∙ list_any-append test own more)
    ∙ swap (is_among y into) (is_among y own) (is_among y more)
    ∙ ap (λ b. is_among y own || b) (sym (list_any-append test into more))
    ∙ sym (list_any-append test own (into ++ more)))

among_walked : (y : Utf8) (n : ℕ) (ls : List Disclosed) (d : Data)
    → is_among y (walked n ls (sites_in d)) ≡ is_among y (reached n ls d)
among_walked y zero ls d = refl
among_walked y (suc n) ls d =
    by_reached y (λ e. walked n ls (sites_in e)) (reached n ls) ls (sites_in d)
    (λ e. among_walked y n ls e)

-- a test of each, where the tests are equal
all_same : (p q : Disclosed → Bool) (ls : List Disclosed) → ((l : Disclosed) → p l ≡ q l)
    → list_all p ls ≡ list_all q ls
all_same p q [] h = refl
all_same p q (l ∷ ls) h = ap₂ (λ a b. a && b) (h l) (all_same p q ls h)

-- from the sites in the payload all disclosures are walked to, or not all, as they are reached
pub walked_is_reached : (payload : Data) (ls : List Disclosed)
    → all_walked (sites_in payload) ls ≡ are_reached payload ls
walked_is_reached payload ls =
    all_same (λ l. is_among l.digest (walked (suc (length ls)) ls (sites_in payload)))
    (λ l. is_among l.digest (reached (suc (length ls)) ls payload)) ls
    (λ l. among_walked l.digest (suc (length ls)) ls payload)

-- ---- all are marked

pub all_marked : (xs : List Utf8) (ls : List Disclosed)
    → list_all (λ b. b) (marked xs ls (replicate (length ls) false)) ≡ list_all (λ l. is_among l.digest xs) ls
all_marked xs [] = refl
all_marked xs (l ∷ ls) = ap (λ b. is_among l.digest xs && b) (all_marked xs ls)
