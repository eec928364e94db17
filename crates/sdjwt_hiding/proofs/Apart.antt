-- Each digest that is written, in the value or in that of a disclosure, is that of a part that is hidden.
use Rattle.std.proofs.Common.{◌≡◌, ℕ, suc, ◌+◌, true, false, not, ◌&&◌, cond, List, [], ◌∷◌, ◌++◌, map}
use Rattle.std.proofs.Common.{Option, Some, None, Ordering, Less, Equal, Greater, nat_cmp, refl, sym, ap, ◌∙◌}
use Rattle.std.proofs.Common.{arith, inl, inr}
use Rattle.std.specs.Ordering.{match_ordering, is_eq}
use Rattle.std.specs.Cmp.Lexicographic.{slice_cmp}
use Rattle.std.specs.Str.{bytes_eq}
use Rattle.std.proofs.lemmas.Bool.{and_parts, cases_Bool}
use Rattle.std.proofs.lemmas.List.{map-append}
use Rattle.std.proofs.lemmas.Map.Text.{is_eq-slice_cmp}
use Rattle.serde_json.specs.Data.{Data, null, boolean, number, string, array, object, Items, no_items, item}
use Rattle.serde_json.specs.Data.{Members as Fields, no_members as no_fields, member as field, put}
use Rattle.claim_names.specs.declared.address.Step.TheVariants.{Name, Place}
use Rattle.base_forms.specs.Texts.{Utf8}
use Rattle.base_forms.proofs.Differing.{bytes_eq-flip}
use Rattle.sdjwt_digests.specs.DigestSites.{sd, Site, in_object, in_list, digest_at, placeholder, texts_in}
use Rattle.sdjwt_digests.specs.DigestSites.{listed, sites_in, sites_in_items, sites_in_members, digests_in}
use Rattle.sdjwt_digests.specs.ReservedNames.{is_reserved_name}
use Rattle.sdjwt_disclosures.specs.Spelling.{times}
use Rattle.sdjwt_disclosures.proofs.Counting.{times-append}
use Rattle.sdjwt_disclosures.proofs.Fields.{HasNo}
use Rattle.sdjwt_hiding.specs.Hiding.{Marks, under, at, Digests, insert, sorted, texts, with_digests}
use Rattle.sdjwt_hiding.specs.Hiding.{standing, with_member, with_digest, hidden, hidden_items, left_members}
use Rattle.sdjwt_hiding.specs.Hiding.{own_digests, Numbered, taken, met, met_items, met_members, is_free}
use Rattle.sdjwt_hiding.specs.Hiding.{are_free, has_free}
use Rattle.sdjwt_hiding.proofs.Spelled.{tally, tally-append}
use Rattle.sdjwt_hiding.proofs.Written.{no_placeholder, none_stays, free_sd, texts_read}

-- how often a text stands in some places
abbrev pub placed : Utf8 → List Site → ℕ
placed y ps = times y (map digest_at ps)

placed-append : (y : Utf8) (ps qs : List Site) → placed y (ps ++ qs) ≡ placed y ps + placed y qs
placed-append y ps qs = ap (times y) (map-append digest_at ps qs)
    ∙ times-append y (map digest_at ps) (map digest_at qs)

-- how often it stands in the values of disclosures
abbrev pub in_values : Utf8 → List Numbered → ℕ
in_values y [] = 0
in_values y (p ∷ ps) = placed y (sites_in p.1.value) + in_values y ps

pub in_values-append : (y : Utf8) (ps qs : List Numbered)
    → in_values y (ps ++ qs) ≡ in_values y ps + in_values y qs
in_values-append y [] qs = omega arith
in_values-append y (p ∷ ps) qs = omega (arith, in_values-append y ps qs)

-- ---- sorted digests

insert_times_at : (o : Ordering) (y x z : Utf8) (zs : List Utf8) → times y (insert x zs) ≡ times y (x ∷ zs)
    → times y (match_ordering o (x ∷ z ∷ zs) (x ∷ z ∷ zs) (z ∷ insert x zs)) ≡ times y (x ∷ z ∷ zs)
insert_times_at Less y x z zs e = refl
insert_times_at Equal y x z zs e = refl
insert_times_at Greater y x z zs e = omega (arith, e)

insert_times : (y x : Utf8) (zs : List Utf8) → times y (insert x zs) ≡ times y (x ∷ zs)
insert_times y x [] = refl
insert_times y x (z ∷ zs) = insert_times_at (slice_cmp nat_cmp x z) y x z zs (insert_times y x zs)

sorted_times : (y : Utf8) (xs : List Utf8) → times y (sorted xs) ≡ times y xs
sorted_times y [] = refl
sorted_times y (x ∷ xs) = omega (arith, insert_times y x (sorted xs), sorted_times y xs)

-- ---- objects

object_digests : (xs : List Utf8) → map digest_at (map in_object xs) ≡ xs
object_digests [] = refl
object_digests (x ∷ xs) = ap (λ ys. x ∷ ys) (object_digests xs)

abbrev under_sd : Data → List Site
under_sd d = map in_object (listed d)

here_under : (y k : Utf8) (d : Data) (ms : Fields) → bytes_eq k sd ≡ false
    → placed y (sites_in_members (field k d ms)) ≡ placed y (sites_in d) + placed y (sites_in_members ms)
here_under y k d ms e = ap (λ b. placed y (cond b (under_sd d) (sites_in d) ++ sites_in_members ms)) e
    ∙ placed-append y (sites_in d) (sites_in_members ms)

put_under_at : (o : Ordering) (y l : Utf8) (d e : Data) (ms : Fields) → is_eq o ≡ false
    → bytes_eq l sd ≡ false → placed y (sites_in_members (put sd d ms)) ≡ placed y (under_sd d) + placed y
    (sites_in_members ms)
    → placed y (sites_in_members (match_ordering o (field sd d (field l e ms)) (field l d ms)
    (field l e (put sd d ms)))) ≡ placed y (under_sd d) + placed y (sites_in_members (field l e ms))
put_under_at Less y l d e ms apart other next = placed-append y (under_sd d) (sites_in_members (field l e ms))
put_under_at Equal y l d e ms apart other next = cc apart
put_under_at Greater y l d e ms apart other next =
    omega (arith, here_under y l e (put sd d ms) other, here_under y l e ms other, next)

put_under : (y : Utf8) (d : Data) (ms : Fields) → HasNo sd ms
    → placed y (sites_in_members (put sd d ms)) ≡ placed y (under_sd d) + placed y (sites_in_members ms)
put_under y d no_fields h = placed-append y (under_sd d) []
put_under y d (field l e ms) h =
    put_under_at (slice_cmp nat_cmp sd l) y l d e ms (is_eq-slice_cmp sd l ∙ bytes_eq-flip sd l
    ∙ h.0) h.0 (put_under y d ms h.1)

with_under : (y : Utf8) (xs : List Utf8) (ms : Fields) → HasNo sd ms
    → placed y (sites_in_members (with_digests xs ms)) ≡ times y xs + placed y (sites_in_members ms)
with_under y [] ms h = omega arith
with_under y (x ∷ xs) ms h =
    let digests : placed y (under_sd (array (texts (sorted (x ∷ xs))))) ≡ times y (sorted (x ∷ xs)) =
    ap (times y) (object_digests (texts_in (texts (sorted (x ∷ xs)))) ∙ texts_read (sorted (x ∷ xs))) in
    omega (arith, put_under y (array (texts (sorted (x ∷ xs)))) ms h, digests, sorted_times y (x ∷ xs))

-- ---- one part

element_apart : (x : Digests) (y : Utf8) (o : Option ℕ) (v : Data) (ds : Items) (ps qs : List Numbered)
    → placeholder v ≡ None → placed y (sites_in v) + in_values y ps ≡ tally y ps
    → placed y (sites_in_items ds) + in_values y qs ≡ tally y qs
    → placed y (sites_in_items (item (standing x o v) ds)) + in_values y (ps ++ (taken x o None v ++ qs)) ≡
    tally y (ps ++ (taken x o None v ++ qs))
element_apart x y None v ds ps qs plain a b =
    let split : sites_in_items (item v ds) ≡ sites_in v ++ sites_in_items ds =
    rw (plain, sites_in_items) refl in
    omega (
      arith,
      ap (placed y) split,
      placed-append y (sites_in v) (sites_in_items ds),
      in_values-append y ps
          qs,
      tally-append y ps qs,
      a,
      b,
    )
element_apart x y (Some n) v ds ps qs plain a b =
    omega (
      arith,
      in_values-append y ps (taken x (Some n) None v ++ qs),
      tally-append y ps
          (taken x (Some n) None v ++ qs),
      a,
      b,
    )

member_apart : (x : Digests) (y : Utf8) (o : Option ℕ) (k : Utf8) (v : Data) (ms : Fields) (xs : List Utf8)
    (ps qs : List Numbered) → bytes_eq k sd ≡ false → placed y (sites_in v) + in_values y ps ≡ tally y ps
    → (times y xs + placed y (sites_in_members ms)) + in_values y qs ≡ tally y qs
    → (times y (with_digest x o k v xs) + placed y (sites_in_members (with_member o k v ms))) + in_values y
    (ps ++ (taken x o (Some k) v ++ qs)) ≡ tally y (ps ++ (taken x o (Some k) v ++ qs))
member_apart x y None k v ms xs ps qs other a b =
    omega (arith, here_under y k v ms other, in_values-append y ps qs, tally-append y ps qs, a, b)
member_apart x y (Some n) k v ms xs ps qs other a b =
    omega (
      arith,
      in_values-append y ps (taken x (Some n) (Some k) v ++ qs),
      tally-append y ps
          (taken x (Some n) (Some k) v ++ qs),
      a,
      b,
    )

-- ---- the whole

mark_is_not_sd : (k : Utf8) → not (is_reserved_name k) ≡ true → bytes_eq k sd ≡ false
mark_is_not_sd k h = elim (cases_Bool (bytes_eq k sd)) [
  | inl same ↦ let clash : false ≡ true =
      ap not (sym (ap (λ b. Rattle.std.specs.Prelude.◌||◌ b
      (bytes_eq k Rattle.sdjwt_digests.specs.DigestSites.dots)) same)) ∙ h in cc clash
  | inr other ↦ other
]

mutual
  pub value_apart : (x : Digests) (m : Marks) (y : Utf8) (d : Data) → is_free d ≡ true
      → placed y (sites_in (hidden x m d)) + in_values y (met x m d) ≡ tally y (met x m d)
  value_apart x m y null h = refl
  value_apart x m y (boolean b) h = refl
  value_apart x m y (number n) h = refl
  value_apart x m y (string s) h = refl
  value_apart x m y (array ds) h = items_apart x m y 0 ds h
  value_apart x m y (object ms) h =
      omega (
        arith,
        with_under y (own_digests x m ms) (left_members x m ms)
            (none_stays x m sd ms (free_sd ms h)),
        members_apart x m y ms h,
      )

  items_apart : (x : Digests) (m : Marks) (y : Utf8) (i : ℕ) (ds : Items) → are_free ds ≡ true
      → placed y (sites_in_items (hidden_items x m i ds)) + in_values y (met_items x m i ds) ≡ tally y
      (met_items x m i ds)
  items_apart x m y i no_items h = refl
  items_apart x m y i (item d ds) h =
      let both = and_parts (is_free d) (are_free ds) h in
      element_apart x y (at (Place i) m) (hidden x (under (Place i) m) d) (hidden_items x m (suc i) ds)
      (met x (under (Place i) m) d) (met_items x m (suc i) ds)
      (no_placeholder x (under (Place i) m) d both.0)
      (value_apart x (under (Place i) m) y d both.0) (items_apart x m y (suc i) ds both.1)

  members_apart : (x : Digests) (m : Marks) (y : Utf8) (ms : Fields) → has_free ms ≡ true
      → (times y (own_digests x m ms) + placed y (sites_in_members (left_members x m ms))) + in_values y
      (met_members x m ms) ≡ tally y (met_members x m ms)
  members_apart x m y no_fields h = refl
  members_apart x m y (field k d ms) h =
      let a = and_parts (not (is_reserved_name k)) (is_free d && has_free ms) h in
      let b = and_parts (is_free d) (has_free ms) a.1 in
      member_apart x y (at (Name k) m) k (hidden x (under (Name k) m) d) (left_members x m ms)
      (own_digests x m ms) (met x (under (Name k) m) d) (met_members x m ms) (mark_is_not_sd k a.0)
      (value_apart x (under (Name k) m) y d b.0) (members_apart x m y ms b.1)
