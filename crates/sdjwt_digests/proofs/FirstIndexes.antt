-- First places.
use Rattle.std.proofs.Common.{◌≡◌, ℕ, suc, ◌+◌, ◌<◌, ◌≤◌, Bool, true, false, cond, List, [], ◌∷◌, ◌++◌}
use Rattle.std.proofs.Common.{length, map, take, get_or, Option, Some, None, option_map, option_and_then}
use Rattle.std.proofs.Common.{refl, sym, ap, ◌∙◌, arith, inl, inr, slice_get, drop, Bor, ltb, ap₂, BTreeMap}
use Rattle.std.specs.Option.{option_or, is_some, IfSome}
use Rattle.std.specs.Map.{update}
use Rattle.std.specs.Str.{bytes_eq}
use Rattle.std.proofs.lemmas.Bool.{cases_Bool}
use Rattle.std.proofs.lemmas.List.{take_more, map-append, take-append-drop}
use Rattle.std.proofs.lemmas.Bool.Decides.{nat_tests}
use Rattle.std.proofs.lemmas.Option.{slice_get-get_or, slice_get_past}
use Rattle.std.proofs.lemmas.List.{length-map, length-take-le}
use Rattle.std.proofs.lemmas.Grind.{common_steps}
use Rattle.base_forms.specs.Texts.{Utf8, is_among}
use Rattle.base_forms.proofs.Differing.{same_from}
use Rattle.sdjwt_digests.specs.Disclosures.{found}
use Rattle.sdjwt_digests.specs.Disclosure.{said}
use Rattle.sdjwt_digests.specs.code.Indexes.{own_digest, first_index, index_at}
use Rattle.sdjwt_digests.specs.declared.disclosure.Disclosure.{Disclosure}

one_later : (b : Bool) (o : Option ℕ) (n : ℕ)
    → option_map suc (option_or o (cond b (Some n) None)) ≡ option_or (option_map suc o)
    (cond b (Some (suc n)) None)
one_later true None n = refl
one_later true (Some k) n = refl
one_later false None n = refl
one_later false (Some k) n = refl

first_or : (b : Bool) (o p : Option ℕ) → cond b (Some 0) (option_or o p) ≡ option_or (cond b (Some 0) o) p
first_or true o p = refl
first_or false o p = refl

pub first_index_push : (x : Utf8) (xs : List Utf8) (y : Utf8)
    → first_index x (xs ++ y ∷ []) ≡ option_or (first_index x xs)
    (cond (bytes_eq y x) (Some (length xs)) None)
first_index_push x [] y = refl
first_index_push x (z ∷ xs) y =
    ap (λ o. cond (bytes_eq z x) (Some 0) (option_map suc o)) (first_index_push x xs y)
    ∙ ap (cond (bytes_eq z x) (Some 0)) (one_later (bytes_eq y x) (first_index x xs) (length xs))
    ∙ first_or (bytes_eq z x) _ _

or_none : (o : Option ℕ) → option_or o None ≡ o
or_none None = refl
or_none (Some n) = refl

pub site_step : (q : Utf8) (xs : List Utf8) (y : Utf8) → first_index y xs ≡ None
    → cond (bytes_eq y q) (Some (length xs)) (first_index q xs) ≡ first_index q (xs ++ y ∷ [])
site_step q xs y new = elim (cases_Bool (bytes_eq y q)) [
  | inl same ↦ let is =
      same_from y q same in rw (first_index_push q xs y, same)
      (ap (λ o. option_or o (Some (length xs))) (sym new ∙ ap (λ k. first_index k xs) is))
  | inr other ↦ rw (first_index_push q xs y, other) (sym (or_none (first_index q xs)))
]

pub is_some-first_index : (x : Utf8) (xs : List Utf8) → is_some (first_index x xs) ≡ is_among x xs
is_some-first_index x [] = refl
is_some-first_index x (y ∷ ys) = elim (cases_Bool (bytes_eq y x)) [
  | inl same ↦ rw same refl
  | inr other ↦ rw other (grind (arith, common_steps, is_some-first_index x ys))
]

one_on : (d : Disclosure) (ds : List Disclosure) (o : Option ℕ)
    → option_and_then (λ i. option_map said (slice_get (d ∷ ds) i)) (option_map suc o) ≡ option_and_then
    (λ i. option_map said (slice_get ds i)) o
one_on d ds None = refl
one_on d ds (Some i) = refl

pub found-first_index : (x : Utf8) (ds : List Disclosure)
    → option_and_then (λ i. option_map said (slice_get ds i)) (first_index x (map own_digest ds)) ≡ found x
    (map said ds)
found-first_index x [] = refl
found-first_index x (d ∷ ds) = elim (cases_Bool (bytes_eq (own_digest d) x)) [
  | inl same ↦ rw same refl
  | inr other ↦ rw other (one_on d ds (first_index x (map own_digest ds)) ∙ found-first_index x ds)
]

pub none_there : (o : Option ℕ) → is_some o ≡ false → o ≡ None
none_there None h = refl
none_there (Some n) h = absurd (cc h)

-- the digests up to the next
pub digests_next : (ds : List Disclosure) (i : ℕ) (d : Disclosure) → i < length ds → d ≡ get_or ds i d
    → map own_digest (take (i + 1) ds) ≡ map own_digest (take i ds) ++ own_digest d ∷ []
digests_next ds i d h is = ap (map own_digest) (take_more ds i d h)
    ∙ map-append own_digest (take i ds) (get_or ds i d ∷ [])
    ∙ ap (λ e. map own_digest (take i ds) ++ own_digest e ∷ []) (sym is)

pub digests_rest : (ds : List Disclosure) (i : ℕ)
    → map own_digest ds ≡ map own_digest (take i ds) ++ map own_digest (drop i ds)
digests_rest ds i = ap (map own_digest) (sym (take-append-drop i ds))
    ∙ map-append own_digest (take i ds) (drop i ds)

pub got : (r : Option (Bor Disclosure)) (ds : List Disclosure) (i : ℕ) → is_some r ≡ ltb i (length ds)
    → IfSome r (λ x. x.now ≡ get_or ds i x.now)
    → option_map (λ x. said x.now) r ≡ option_map said (slice_get ds i)
got None ds i none is =
    let past : length ds ≤ i = grind (arith, nat_tests) in
    sym (ap (option_map said) (slice_get_past ds i past))
got (Some x) ds i some is =
    let within : i < length ds = grind (arith, nat_tests) in
    ap (λ d. Some (said d)) is ∙ sym (ap (option_map said) (slice_get-get_or ds i x.now within))

pub length_front : (ds : List Disclosure) (i : ℕ) → i < length ds → length (map own_digest (take i ds)) ≡ i
length_front ds i h = length-map (take i ds) own_digest ∙ length-take-le i ds (omega arith)

pub index_step : (m : BTreeMap (Bor Utf8) ℕ) (i : ℕ) (y : Utf8) (xs : List Utf8) (x : Utf8)
    → index_at m x ≡ first_index x xs → length xs ≡ i → first_index y xs ≡ None
    → update bytes_eq (index_at m) y (Some i) x ≡ first_index x (xs ++ y ∷ [])
index_step m i y xs x old size new =
    ap₂ (λ n o. cond (bytes_eq y x) (Some n) o) (sym size) old ∙ site_step x xs y new

-- the digests of disclosures in memory
pub digests_said : (ds : List Disclosure) → map (λ l. l.digest) (map said ds) ≡ map own_digest ds
digests_said [] = refl
digests_said (d ∷ ds) = ap (λ xs. own_digest d ∷ xs) (digests_said ds)
