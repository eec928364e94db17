-- `_sd` and `...` stand where they may, and no disclosure is named so.
use Rattle.std.proofs.Common.{◌≡◌, ℕ, suc, Bool, true, false, not, ◌&&◌, ◌||◌, cond, List, [], ◌∷◌, ◌++◌}
use Rattle.std.proofs.Common.{Option, Some, None, Ordering, Less, Equal, Greater, nat_cmp, refl, ap, ◌∙◌}
use Rattle.std.specs.List.{AllByRecursion}
use Rattle.std.specs.Ordering.{match_ordering, is_eq}
use Rattle.std.specs.Cmp.Lexicographic.{slice_cmp}
use Rattle.std.specs.Str.{bytes_eq}
use Rattle.std.proofs.lemmas.Bool.{and_parts, and_from, or_parts}
use Rattle.std.proofs.lemmas.Map.Text.{is_eq-slice_cmp}
use Rattle.serde_json.specs.Data.{Data, null, boolean, number, string, array, object, Items, no_items, item}
use Rattle.serde_json.specs.Data.{Members as Fields, no_members as no_fields, member as field, put}
use Rattle.claim_names.specs.declared.address.Step.TheVariants.{Name, Place}
use Rattle.base_forms.specs.Texts.{Utf8}
use Rattle.base_forms.proofs.Differing.{bytes_eq-flip}
use Rattle.sdjwt_digests.specs.DigestSites.{sd, dots, are_texts, is_placeholder}
use Rattle.sdjwt_digests.specs.ReservedNames.{is_list_of_texts, is_sound, are_items_sound, are_members_sound}
use Rattle.sdjwt_digests.specs.ReservedNames.{is_reserved_name, has_reserved_name}
use Rattle.sdjwt_disclosures.proofs.Fields.{HasNo}
use Rattle.sdjwt_disclosures.proofs.Fits.{all-append}
use Rattle.sdjwt_hiding.specs.Hiding.{Marks, under, at, Digests, sorted, texts, with_digests, standing}
use Rattle.sdjwt_hiding.specs.Hiding.{with_member, hidden, hidden_items, left_members, own_digests, Numbered}
use Rattle.sdjwt_hiding.specs.Hiding.{taken, met, met_items, met_members, is_free, are_free, has_free}
use Rattle.sdjwt_hiding.proofs.Written.{none_stays, free_sd}

are_texts_written : (xs : List Utf8) → are_texts (texts xs) ≡ true
are_texts_written [] = refl
are_texts_written (x ∷ xs) = are_texts_written xs

-- ---- one member

abbrev fits : Utf8 → Data → Bool
fits k d = cond (bytes_eq k sd) (is_list_of_texts d) (not (bytes_eq k dots) && is_sound d)

put_sound_at : (o : Ordering) (l : Utf8) (d e : Data) (ms : Fields) → is_eq o ≡ false
    → is_list_of_texts d ≡ true → fits l e ≡ true → are_members_sound ms ≡ true
    → are_members_sound (put sd d ms) ≡ true
    → are_members_sound (match_ordering o (field sd d (field l e ms)) (field l d ms)
    (field l e (put sd d ms))) ≡ true
put_sound_at Less l d e ms apart good one rest next =
    and_from (is_list_of_texts d) (are_members_sound (field l e ms)) good
    (and_from (fits l e) (are_members_sound ms) one rest)
put_sound_at Equal l d e ms apart good one rest next = cc apart
put_sound_at Greater l d e ms apart good one rest next =
    and_from (fits l e) (are_members_sound (put sd d ms)) one next

put_sound : (d : Data) (ms : Fields) → is_list_of_texts d ≡ true → HasNo sd ms → are_members_sound ms ≡ true
    → are_members_sound (put sd d ms) ≡ true
put_sound d no_fields good none h = and_from (is_list_of_texts d) true good refl
put_sound d (field l e ms) good none h =
    let both = and_parts (fits l e) (are_members_sound ms) h in
    put_sound_at (slice_cmp nat_cmp sd l) l d e ms (is_eq-slice_cmp sd l ∙ bytes_eq-flip sd l
    ∙ none.0) good both.0 both.1 (put_sound d ms good none.1 both.1)

with_sound : (xs : List Utf8) (ms : Fields) → HasNo sd ms → are_members_sound ms ≡ true
    → are_members_sound (with_digests xs ms) ≡ true
with_sound [] ms none h = h
with_sound (x ∷ xs) ms none h =
    put_sound (array (texts (sorted (x ∷ xs)))) ms (are_texts_written (sorted (x ∷ xs))) none h

not_true : (b : Bool) → not b ≡ true → b ≡ false
not_true true e = cc
not_true false e = refl

member_sound : (o : Option ℕ) (k : Utf8) (v : Data) (ms : Fields) → not (is_reserved_name k) ≡ true
    → is_sound v ≡ true → are_members_sound ms ≡ true → are_members_sound (with_member o k v ms) ≡ true
member_sound None k v ms free a b =
    let apart = or_parts (bytes_eq k sd) (bytes_eq k dots) (not_true (is_reserved_name k) free) in
    and_from (fits k v) (are_members_sound ms)
    (ap (λ c. cond c (is_list_of_texts v) (not (bytes_eq k dots) && is_sound v)) apart.0
    ∙ and_from (not (bytes_eq k dots)) (is_sound v) (ap not apart.1) a) b
member_sound (Some n) k v ms free a b = b

element_sound : (x : Digests) (o : Option ℕ) (v : Data) (ds : Items) → is_sound v ≡ true
    → are_items_sound ds ≡ true → are_items_sound (item (standing x o v) ds) ≡ true
element_sound x None v ds a b =
    and_from (is_placeholder v || is_sound v) (are_items_sound ds) (either (is_placeholder v) (is_sound v) a)
    b where
      either : (p q : Bool) → q ≡ true → (p || q) ≡ true
      either true q e = refl
      either false q e = e
element_sound x (Some n) v ds a b = b

-- ---- the value

mutual
  pub hidden_sound : (x : Digests) (m : Marks) (d : Data) → is_free d ≡ true → is_sound (hidden x m d) ≡ true
  hidden_sound x m null h = refl
  hidden_sound x m (boolean b) h = refl
  hidden_sound x m (number n) h = refl
  hidden_sound x m (string s) h = refl
  hidden_sound x m (array ds) h = items_sound x m 0 ds h
  hidden_sound x m (object ms) h =
      with_sound (own_digests x m ms) (left_members x m ms) (none_stays x m sd ms (free_sd ms h))
      (left_sound x m ms h)

  items_sound : (x : Digests) (m : Marks) (i : ℕ) (ds : Items) → are_free ds ≡ true
      → are_items_sound (hidden_items x m i ds) ≡ true
  items_sound x m i no_items h = refl
  items_sound x m i (item d ds) h =
      let both = and_parts (is_free d) (are_free ds) h in
      element_sound x (at (Place i) m) (hidden x (under (Place i) m) d) (hidden_items x m (suc i) ds)
      (hidden_sound x (under (Place i) m) d both.0) (items_sound x m (suc i) ds both.1)

  left_sound : (x : Digests) (m : Marks) (ms : Fields) → has_free ms ≡ true
      → are_members_sound (left_members x m ms) ≡ true
  left_sound x m no_fields h = refl
  left_sound x m (field k d ms) h =
      let a = and_parts (not (is_reserved_name k)) (is_free d && has_free ms) h in
      let b = and_parts (is_free d) (has_free ms) a.1 in
      member_sound (at (Name k) m) k (hidden x (under (Name k) m) d) (left_members x m ms) a.0
      (hidden_sound x (under (Name k) m) d b.0) (left_sound x m ms b.1)

-- ---- the disclosures

-- it is not named as what is kept for digests, and so in its value
abbrev pub IsGood : Numbered → Type 0
IsGood p = (is_sound p.1.value ≡ true) × (has_reserved_name p.1 ≡ false)

element_good : (x : Digests) (o : Option ℕ) (v : Data) → is_sound v ≡ true
    → AllByRecursion IsGood (taken x o None v)
element_good x None v h = tt
element_good x (Some n) v h = ((h, refl), tt)

member_good : (x : Digests) (o : Option ℕ) (k : Utf8) (v : Data) → is_sound v ≡ true
    → is_reserved_name k ≡ false → AllByRecursion IsGood (taken x o (Some k) v)
member_good x None k v h e = tt
member_good x (Some n) k v h e = ((h, e), tt)

mutual
  pub met_good : (x : Digests) (m : Marks) (d : Data) → is_free d ≡ true → AllByRecursion IsGood (met x m d)
  met_good x m null h = tt
  met_good x m (boolean b) h = tt
  met_good x m (number n) h = tt
  met_good x m (string s) h = tt
  met_good x m (array ds) h = items_good x m 0 ds h
  met_good x m (object ms) h = members_good x m ms h

  items_good : (x : Digests) (m : Marks) (i : ℕ) (ds : Items) → are_free ds ≡ true
      → AllByRecursion IsGood (met_items x m i ds)
  items_good x m i no_items h = tt
  items_good x m i (item d ds) h =
      let both = and_parts (is_free d) (are_free ds) h in
      let own = taken x (at (Place i) m) None (hidden x (under (Place i) m) d) in
      all-append IsGood (met x (under (Place i) m) d) (own ++ met_items x m (suc i) ds)
      (met_good x (under (Place i) m) d both.0)
      (all-append IsGood own (met_items x m (suc i) ds)
      (element_good x (at (Place i) m) (hidden x (under (Place i) m) d)
      (hidden_sound x (under (Place i) m) d both.0)) (items_good x m (suc i) ds both.1))

  members_good : (x : Digests) (m : Marks) (ms : Fields) → has_free ms ≡ true
      → AllByRecursion IsGood (met_members x m ms)
  members_good x m no_fields h = tt
  members_good x m (field k d ms) h =
      let a = and_parts (not (is_reserved_name k)) (is_free d && has_free ms) h in
      let b = and_parts (is_free d) (has_free ms) a.1 in
      let own = taken x (at (Name k) m) (Some k) (hidden x (under (Name k) m) d) in
      all-append IsGood (met x (under (Name k) m) d) (own ++ met_members x m ms)
      (met_good x (under (Name k) m) d b.0)
      (all-append IsGood own (met_members x m ms)
      (member_good x (at (Name k) m) k (hidden x (under (Name k) m) d)
      (hidden_sound x (under (Name k) m) d b.0) (not_true (is_reserved_name k) a.0))
      (members_good x m ms b.1))
