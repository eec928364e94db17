-- Where all numbers of a value are whole, so are those of what is written.
use Rattle.std.proofs.Common.{◌≡◌, ℕ, suc, false, ◌||◌, List, [], ◌∷◌, Option, Some, None, Ordering, Less}
use Rattle.std.proofs.Common.{Equal, Greater, nat_cmp, refl}
use Rattle.std.specs.Ordering.{match_ordering}
use Rattle.std.specs.Cmp.Lexicographic.{slice_cmp}
use Rattle.std.proofs.lemmas.Bool.{or_parts, or_from}
use Rattle.serde_json.specs.Data.{Data, null, boolean, number, string, array, object, Items, no_items, item}
use Rattle.serde_json.specs.Data.{Members as Fields, no_members as no_fields, member as field, put}
use Rattle.serde_json.specs.Written.{has_float, items_have_float, members_have_float}
use Rattle.claim_names.specs.declared.address.Step.TheVariants.{Name, Place}
use Rattle.base_forms.specs.Texts.{Utf8}
use Rattle.sdjwt_digests.specs.DigestSites.{sd}
use Rattle.sdjwt_hiding.specs.Hiding.{Marks, under, at, Digests, sorted, texts, with_digests, standing}
use Rattle.sdjwt_hiding.specs.Hiding.{with_member, hidden, hidden_items, left_members, own_digests}

texts_whole : (xs : List Utf8) → items_have_float (texts xs) ≡ false
texts_whole [] = refl
texts_whole (x ∷ xs) = texts_whole xs

put_whole_at : (o : Ordering) (k l : Utf8) (d e : Data) (ms : Fields) → has_float d ≡ false
    → has_float e ≡ false → members_have_float ms ≡ false → members_have_float (put k d ms) ≡ false
    → members_have_float (match_ordering o (field k d (field l e ms)) (field l d ms) (field l e (put k d ms)))
    ≡ false
put_whole_at Less k l d e ms a b rest next =
    or_from (has_float d) (has_float e || members_have_float ms) a
    (or_from (has_float e) (members_have_float ms) b rest)
put_whole_at Equal k l d e ms a b rest next = or_from (has_float d) (members_have_float ms) a rest
put_whole_at Greater k l d e ms a b rest next = or_from (has_float e) (members_have_float (put k d ms)) b next

pub put_whole : (k : Utf8) (d : Data) (ms : Fields) → has_float d ≡ false → members_have_float ms ≡ false
    → members_have_float (put k d ms) ≡ false
put_whole k d no_fields a h = or_from (has_float d) false a refl
put_whole k d (field l e ms) a h =
    let both = or_parts (has_float e) (members_have_float ms) h in
    put_whole_at (slice_cmp nat_cmp k l) k l d e ms a both.0 both.1 (put_whole k d ms a both.1)

with_whole : (xs : List Utf8) (ms : Fields) → members_have_float ms ≡ false
    → members_have_float (with_digests xs ms) ≡ false
with_whole [] ms h = h
with_whole (x ∷ xs) ms h = put_whole sd (array (texts (sorted (x ∷ xs)))) ms (texts_whole (sorted (x ∷ xs))) h

element_whole : (x : Digests) (o : Option ℕ) (v : Data) → has_float v ≡ false
    → has_float (standing x o v) ≡ false
element_whole x None v h = h
element_whole x (Some n) v h = refl

member_whole : (o : Option ℕ) (k : Utf8) (v : Data) (ms : Fields) → has_float v ≡ false
    → members_have_float ms ≡ false → members_have_float (with_member o k v ms) ≡ false
member_whole None k v ms a b = or_from (has_float v) (members_have_float ms) a b
member_whole (Some n) k v ms a b = b

mutual
  pub hidden_whole : (x : Digests) (m : Marks) (d : Data) → has_float d ≡ false
      → has_float (hidden x m d) ≡ false
  hidden_whole x m null h = h
  hidden_whole x m (boolean b) h = h
  hidden_whole x m (number n) h = h
  hidden_whole x m (string s) h = h
  hidden_whole x m (array ds) h = items_whole x m 0 ds h
  hidden_whole x m (object ms) h = with_whole (own_digests x m ms) (left_members x m ms) (left_whole x m ms h)

  items_whole : (x : Digests) (m : Marks) (i : ℕ) (ds : Items) → items_have_float ds ≡ false
      → items_have_float (hidden_items x m i ds) ≡ false
  items_whole x m i no_items h = refl
  items_whole x m i (item d ds) h =
      let both = or_parts (has_float d) (items_have_float ds) h in
      or_from (has_float (standing x (at (Place i) m) (hidden x (under (Place i) m) d)))
      (items_have_float (hidden_items x m (suc i) ds))
      (element_whole x (at (Place i) m) (hidden x (under (Place i) m) d)
      (hidden_whole x (under (Place i) m) d both.0))
      (items_whole x m (suc i) ds both.1)

  left_whole : (x : Digests) (m : Marks) (ms : Fields) → members_have_float ms ≡ false
      → members_have_float (left_members x m ms) ≡ false
  left_whole x m no_fields h = refl
  left_whole x m (field k d ms) h =
      let both = or_parts (has_float d) (members_have_float ms) h in
      member_whole (at (Name k) m) k (hidden x (under (Name k) m) d) (left_members x m ms)
      (hidden_whole x (under (Name k) m) d both.0) (left_whole x m ms both.1)
