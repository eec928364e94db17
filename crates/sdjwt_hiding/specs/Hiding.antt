-- Hiding parts of a JSON value: in place of each hidden member or element its digest stands, and a disclosure
-- holds its value (RFC 9901, sections 4.2 and 6.2).
use Rattle.std.specs.Prelude.{◌≡◌, ℕ, suc, Bool, true, not, ◌&&◌, List, [], ◌∷◌, ◌++◌, map, nat_le, Option}
use Rattle.std.specs.Prelude.{Some, None, if◌then◌else◌}
use Rattle.std.specs.Ordering.{nat_cmp, match_ordering}
use Rattle.std.specs.Cmp.Lexicographic.{slice_cmp}
use Rattle.serde_json.specs.Data.{Data, null, boolean, number, string, array, object, Items, no_items, item}
use Rattle.serde_json.specs.Data.{Members as Fields, no_members as no_fields, member as field, put}
use Rattle.base_forms.specs.Texts.{Utf8}
use Rattle.claim_names.specs.declared.address.Step.{Step}
use Rattle.claim_names.specs.declared.address.Step.TheVariants.{Name, Place}
use Rattle.sdjwt_digests.specs.Disclosures.{Disclosed}
use Rattle.sdjwt_digests.specs.DigestSites.{sd, dots}
use Rattle.sdjwt_digests.specs.ReservedNames.{is_reserved_name}

-- ---- which parts are hidden

-- For the address of each part of a value, the number of the disclosure that holds the part, and none where
-- the part stays.
abbrev pub Marks : Type 0
Marks = List Step → Option ℕ

-- the marks of the part at one step, by addresses from there on
abbrev pub under : Step → Marks → Marks
under s m = λ a. m (s ∷ a)

-- the mark of the part at one step itself
abbrev pub at : Step → Marks → Option ℕ
at s m = m (s ∷ [])

-- nothing at this name or below it is hidden
abbrev pub StaysPlain : Marks → Utf8 → Type 0
StaysPlain m k = (a : List Step) → m (Name k ∷ a) ≡ None

-- ---- what is written

-- The digest of the disclosure with this number, of the member of this name or of an element, with this
-- value.
abbrev pub Digests : Type 0
Digests = ℕ → Option Utf8 → Data → Utf8

-- texts in the order of their bytes
abbrev pub insert : Utf8 → List Utf8 → List Utf8
insert x [] = x ∷ []
insert x (y ∷ ys) = match_ordering (slice_cmp nat_cmp x y) (x ∷ y ∷ ys) (x ∷ y ∷ ys) (y ∷ insert x ys)

abbrev pub sorted : List Utf8 → List Utf8
sorted [] = []
sorted (x ∷ xs) = insert x (sorted xs)

abbrev pub texts : List Utf8 → Items
texts [] = no_items
texts (x ∷ xs) = item (string x) (texts xs)

-- The members of an object with the digests of its hidden members, where it has any, in `_sd` (section
-- 4.2.4.1). They ascend, so that their order does not tell that of the members.
abbrev pub with_digests : List Utf8 → Fields → Fields
with_digests [] ms = ms
with_digests (x ∷ xs) ms = put sd (array (texts (sorted (x ∷ xs)))) ms

-- what stands in a list for a hidden element (section 4.2.4.2)
abbrev pub placeholder_of : Utf8 → Data
placeholder_of x = object (field dots (string x) no_fields)

-- what stands in a list for an element of this mark and value
abbrev pub standing : Digests → Option ℕ → Data → Data
standing x None d = d
standing x (Some n) d = placeholder_of (x n None d)

-- some members, and before them one of this mark, where it stays
abbrev pub with_member : Option ℕ → Utf8 → Data → Fields → Fields
with_member None k d ms = field k d ms
with_member (Some n) k d ms = ms

-- some digests, and before them that of a member of this mark, where it is hidden
abbrev pub with_digest : Digests → Option ℕ → Utf8 → Data → List Utf8 → List Utf8
with_digest x None k d xs = xs
with_digest x (Some n) k d xs = x n (Some k) d ∷ xs

-- The value with all that is marked hidden. What is below a hidden part is hidden first, so that the value in
-- a disclosure has the digests of what is hidden in it (section 4.2.6).
abbrev mutual
  pub hidden : Digests → Marks → Data → Data
  hidden x m null = null
  hidden x m (boolean b) = boolean b
  hidden x m (number n) = number n
  hidden x m (string s) = string s
  hidden x m (array ds) = array (hidden_items x m 0 ds)
  hidden x m (object ms) = object (with_digests (own_digests x m ms) (left_members x m ms))

  -- the elements from a place on
  pub hidden_items : Digests → Marks → ℕ → Items → Items
  hidden_items x m i no_items = no_items
  hidden_items x m i (item d ds) =
      item (standing x (at (Place i) m) (hidden x (under (Place i) m) d)) (hidden_items x m (suc i) ds)

  -- the members that stay
  pub left_members : Digests → Marks → Fields → Fields
  left_members x m no_fields = no_fields
  left_members x m (field k d ms) =
      with_member (at (Name k) m) k (hidden x (under (Name k) m) d) (left_members x m ms)

  -- the digests of those that are hidden
  pub own_digests : Digests → Marks → Fields → List Utf8
  own_digests x m no_fields = []
  own_digests x m (field k d ms) =
      with_digest x (at (Name k) m) k (hidden x (under (Name k) m) d) (own_digests x m ms)

-- ---- the disclosures

-- a disclosure and its number
abbrev pub Numbered : Type 0
Numbered = ℕ × Disclosed

-- the disclosure of a part of this mark, where it is hidden
abbrev pub taken : Digests → Option ℕ → Option Utf8 → Data → List Numbered
taken x None name value = []
taken x (Some n) name value = (n, record { digest = x n name value; name = name; value = value }) ∷ []

-- the disclosures of all that is hidden, what is below a part before the part
abbrev mutual
  pub met : Digests → Marks → Data → List Numbered
  met x m null = []
  met x m (boolean b) = []
  met x m (number n) = []
  met x m (string s) = []
  met x m (array ds) = met_items x m 0 ds
  met x m (object ms) = met_members x m ms

  pub met_items : Digests → Marks → ℕ → Items → List Numbered
  met_items x m i no_items = []
  met_items x m i (item d ds) = met x (under (Place i) m) d
      ++ (taken x (at (Place i) m) None (hidden x (under (Place i) m) d) ++ met_items x m (suc i) ds)

  pub met_members : Digests → Marks → Fields → List Numbered
  met_members x m no_fields = []
  met_members x m (field k d ms) = met x (under (Name k) m) d
      ++ (taken x (at (Name k) m) (Some k) (hidden x (under (Name k) m) d) ++ met_members x m ms)

-- one more, in its place by its number
abbrev pub add : Numbered → List Numbered → List Numbered
add p [] = p ∷ []
add p (q ∷ qs) = if nat_le p.0 q.0 then p ∷ q ∷ qs else q ∷ add p qs

abbrev pub by_number : List Numbered → List Numbered
by_number [] = []
by_number (p ∷ ps) = add p (by_number ps)

-- the disclosures in the order of their numbers
abbrev pub disclosures : Digests → Marks → Data → List Disclosed
disclosures x m d = map (λ p. p.1) (by_number (met x m d))

-- ---- reserved names

-- no member at any depth is named `_sd` or `...`
abbrev mutual
  pub is_free : Data → Bool
  is_free (array ds) = are_free ds
  is_free (object ms) = has_free ms
  is_free _ = true

  pub are_free : Items → Bool
  are_free no_items = true
  are_free (item d ds) = is_free d && are_free ds

  pub has_free : Fields → Bool
  has_free no_fields = true
  has_free (field k d ms) = not (is_reserved_name k) && (is_free d && has_free ms)
