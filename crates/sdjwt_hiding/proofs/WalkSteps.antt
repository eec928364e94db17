-- One step of each loop of the walk.
use Rattle.std.proofs.Common.{◌≡◌, ◌≤◌, ℕ, zero, suc, ◌+◌, true, false, List, [], ◌∷◌, ◌++◌, map}
use Rattle.std.proofs.Common.{length, drop, get_or, ◌<◌, Option, Some, None, refl, sym, ap, ap₂}
use Rattle.std.proofs.Common.{subst, ◌∙◌, arith, append_assoc, append-nil}
use Rattle.std.proofs.lemmas.Bool.{or_parts, and_from}
use Rattle.serde_json.specs.Written.{has_float, items_have_float, members_have_float}
use Rattle.claim_names.specs.declared.address.Step.TheVariants.{Name, Place}
use Rattle.std.proofs.Math.Seq.{drop-cons}
use Rattle.std.proofs.lemmas.List.{map-append}
use Rattle.serde_json.specs.Data.{Data, Items, no_items, item, Members as Fields, no_members as no_fields}
use Rattle.serde_json.specs.Data.{member as field}
use Rattle.std.proofs.Common.{String, Global, Less, string_bytes}
use Rattle.std.specs.List.{list_all, AllByRecursion}
use Rattle.std.specs.List.Sorted.{IsStrictlySortedBy}
use Rattle.std.specs.Ordering.{is_lt}
use Rattle.std.specs.String.{string_cmp}
use Rattle.serde_json.proofs.Views.{Entry}
use Rattle.claim_tree.specs.Tree.{ascend}
use Rattle.claim_tree.specs.Ascending.{below}
use Rattle.sdjwt_hiding.proofs.PutAgain.{put_all, put_again}
use Rattle.sdjwt_hiding.proofs.Names.{left_ascend}
use Rattle.sdjwt_hiding.proofs.Written.{field_names}
use Rattle.sdjwt_disclosures.proofs.Fits.{all-append}
use Rattle.serde_json.specs.View.{view, items_view, members_view}
use Rattle.serde_json.specs.declared.value.Value.{Value}
use Rattle.base_forms.specs.Texts.{Utf8}
use Rattle.claim_names.specs.declared.address.Step.{Step}
use Rattle.sdjwt_hiding.specs.Hiding.{Marks, under, at, standing, with_digests, with_member, with_digest}
use Rattle.sdjwt_hiding.specs.Hiding.{hidden, hidden_items, left_members, own_digests, Numbered, taken, met}
use Rattle.sdjwt_hiding.specs.Hiding.{met_items, met_members}
use Rattle.sdjwt_hiding.specs.Disclosing.{by_sha256, told, all_told, IsReadBack}
use Rattle.sdjwt_hiding.specs.code.Walk.{marks_at, put_staying}
use Rattle.sdjwt_hiding.specs.declared.addresses.Places.{Places}

-- ---- elements

abbrev pub before_items : List Value → Items → Items
before_items [] ds = ds
before_items (v ∷ vs) ds = item (view v) (before_items vs ds)

pub before_more : (vs : List Value) (v : Value) (ds : Items)
    → before_items (vs ++ v ∷ []) ds ≡ before_items vs (item (view v) ds)
before_more [] v ds = refl
before_more (w ∷ vs) v ds = ap (item (view w)) (before_more vs v ds)

pub before_none : (vs : List Value) → before_items vs no_items ≡ items_view vs
before_none [] = refl
before_none (v ∷ vs) = ap (item (view v)) (before_none vs)

pub none_left : {A : Type 0} (xs : List A) → 0 ≡ length xs → xs ≡ []
none_left [] e = refl
none_left (x ∷ xs) e = absurd (omega (arith, e))

-- ---- disclosures

pub told_step : (a b d old : List (ℕ × Utf8 × Utf8)) (ps qs rs : List Numbered) → b ≡ a ++ all_told ps
    → d ≡ b ++ all_told qs → a ++ all_told (ps ++ (qs ++ rs)) ≡ old → d ++ all_told rs ≡ old
told_step a b d old ps qs rs e f g =
    ap (λ x. x ++ all_told rs) (f ∙ ap (λ x. x ++ all_told qs) e)
    ∙ append_assoc (a ++ all_told ps) (all_told qs) (all_told rs)
    ∙ append_assoc a (all_told ps) (all_told qs ++ all_told rs)
    ∙ ap (λ x. a ++ x) (ap (λ x. all_told ps ++ x) (sym (map-append told qs rs))
    ∙ sym (map-append told ps (qs ++ rs)))
    ∙ g

read_step : (ps qs rs : List Numbered) → AllByRecursion IsReadBack ps → AllByRecursion IsReadBack qs
    → AllByRecursion IsReadBack rs → AllByRecursion IsReadBack (ps ++ (qs ++ rs))
read_step ps qs rs a b c = all-append IsReadBack ps (qs ++ rs) a (all-append IsReadBack qs rs b c)

pub told_none : (a : List (ℕ × Utf8 × Utf8)) → a ≡ a ++ all_told []
told_none a = sym (append-nil a)

-- ---- one element

-- what the loop over a list keeps, with what is still to be walked over
pub record Keeps (m : Marks) (place : ℕ) (rest all : List Value) (items : List Value)
    (made old : List (ℕ × Utf8 × Utf8)) : Type 0 where
  pub whole : items_have_float (items_view rest) ≡ false
  pub told : made ++ all_told (met_items by_sha256 m place (items_view rest)) ≡ old ++ all_told
      (met_items by_sha256 m 0 (items_view all))
  pub shown : before_items items (hidden_items by_sha256 m place (items_view rest)) ≡ hidden_items by_sha256 m
      0 (items_view all)
  pub back : AllByRecursion IsReadBack (met_items by_sha256 m place (items_view rest))
      → AllByRecursion IsReadBack (met_items by_sha256 m 0 (items_view all))

pub keeps_element : (m : Marks) (place : ℕ) (v : Value) (rest all items : List Value)
    (made between next old : List (ℕ × Utf8 × Utf8)) (inner stands : Value) (o : Option ℕ)
    → Keeps m place (v ∷ rest) all items made old
    → view inner ≡ hidden by_sha256 (under (Place place) m) (view v) → o ≡ at (Place place) m
    → between ≡ made ++ all_told (met by_sha256 (under (Place place) m) (view v))
    → view stands ≡ standing by_sha256 o (view inner)
    → next ≡ between ++ all_told (taken by_sha256 o None (view inner))
    → AllByRecursion IsReadBack (met by_sha256 (under (Place place) m) (view v))
    → AllByRecursion IsReadBack (taken by_sha256 o None (view inner))
    → Keeps m (suc place) rest all (items ++ stands ∷ []) next old
keeps_element m place v rest all items made between next old inner stands o k value number one two three below
    own =
    let same : view stands ≡ standing by_sha256 (at (Place place) m)
    (hidden by_sha256 (under (Place place) m) (view v)) = two ∙ ap₂ (standing by_sha256) number value in
    let took : next ≡ between ++ all_told
    (taken by_sha256 (at (Place place) m) None (hidden by_sha256 (under (Place place) m) (view v))) =
    three ∙ ap (λ ps. between ++ all_told ps) (ap₂ (λ p d. taken by_sha256 p None d) number value) in
    record {
      whole = (or_parts (has_float (view v)) (items_have_float (items_view rest)) k.whole).1;
      told = told_step made between next (old ++ all_told (met_items by_sha256 m 0 (items_view all)))
          (met by_sha256 (under (Place place) m) (view v))
          (taken by_sha256 (at (Place place) m) None (hidden by_sha256 (under (Place place) m) (view v)))
          (met_items by_sha256 m (suc place) (items_view rest)) one took k.told;
      back = λ more. k.back (read_step (met by_sha256 (under (Place place) m) (view v))
          (taken by_sha256 (at (Place place) m) None (hidden by_sha256 (under (Place place) m) (view v)))
          (met_items by_sha256 m (suc place) (items_view rest)) below
          (subst (AllByRecursion IsReadBack) (ap₂ (λ p d. taken by_sha256 p None d) number value) own) more);
      shown = before_more items stands (hidden_items by_sha256 m (suc place) (items_view rest))
          ∙ ap (λ d. before_items items (item d (hidden_items by_sha256 m (suc place) (items_view rest))))
          same ∙ k.shown;
    }

-- ---- the front of what is still to be walked over

pub cut_at : {A : Type 0} (l : List A) (i : ℕ) (x : A) → i < length l → x ≡ get_or l i x → drop i l ≡ x
    ∷ drop (i + 1) l
cut_at l i x h e =
    let more : suc i ≡ i + 1 = omega arith in
    drop-cons l i x h ∙ ap₂ (λ y n. y ∷ drop n l) (sym e) more

pub drop_past : {A : Type 0} (l : List A) (i : ℕ) → length l ≤ i → drop i l ≡ []
drop_past [] zero h = refl
drop_past [] (suc i) h = refl
drop_past (y ∷ l) zero h = absurd (omega arith)
drop_past (y ∷ l) (suc i) h = drop_past l i (omega arith)

-- where nothing is left, the list is the one that was meant
pub keeps_end : (m : Marks) (place : ℕ) (rest all items : List Value) (made old : List (ℕ × Utf8 × Utf8))
    → rest ≡ [] → Keeps m place rest all items made old
    → items_view items ≡ hidden_items by_sha256 m 0 (items_view all)
keeps_end m place rest all items made old e k =
    sym (before_none items) ∙ ap (λ vs. before_items items (hidden_items by_sha256 m place (items_view vs)))
    (sym e) ∙ k.shown

pub keeps_made : (m : Marks) (place : ℕ) (rest all items : List Value) (made old : List (ℕ × Utf8 × Utf8))
    → rest ≡ [] → Keeps m place rest all items made old
    → made ≡ old ++ all_told (met_items by_sha256 m 0 (items_view all))
keeps_made m place rest all items made old e k =
    told_none made ∙ ap (λ vs. made ++ all_told (met_items by_sha256 m place (items_view vs))) (sym e)
    ∙ k.told

pub keeps_read : (m : Marks) (place : ℕ) (rest all items : List Value) (made old : List (ℕ × Utf8 × Utf8))
    → rest ≡ [] → Keeps m place rest all items made old
    → AllByRecursion IsReadBack (met_items by_sha256 m 0 (items_view all))
keeps_read m place rest all items made old e k =
    k.back (subst (λ vs. AllByRecursion IsReadBack (met_items by_sha256 m place (items_view vs))) (sym e) tt)

-- ---- one member

-- what the loop over an object keeps, with what is still to be walked over
pub record KeepsMembers (m : Marks) (rest all written : Fields) (digests : List Utf8)
    (made old : List (ℕ × Utf8 × Utf8)) : Type 0 where
  pub whole : members_have_float rest ≡ false
  pub told : made ++ all_told (met_members by_sha256 m rest) ≡ old ++ all_told (met_members by_sha256 m all)
  pub shown : digests ++ own_digests by_sha256 m rest ≡ own_digests by_sha256 m all
  pub stays : put_all (left_members by_sha256 m rest) written ≡ put_all (left_members by_sha256 m all)
      no_fields
  pub back : AllByRecursion IsReadBack (met_members by_sha256 m rest)
      → AllByRecursion IsReadBack (met_members by_sha256 m all)

put_one : (o : Option ℕ) (k : Utf8) (d : Data) (rest written : Fields)
    → put_all rest (put_staying o k d written) ≡ put_all (with_member o k d rest) written
put_one None k d rest written = refl
put_one (Some n) k d rest written = refl

digest_one : (o : Option ℕ) (k : Utf8) (d : Data) (xs : List Utf8)
    → with_digest by_sha256 o k d [] ++ xs ≡ with_digest by_sha256 o k d xs
digest_one None k d xs = refl
digest_one (Some n) k d xs = refl

pub keeps_member : (m : Marks) (k : Utf8) (v : Data) (rest all written after : Fields)
    (digests more : List Utf8) (made between next old : List (ℕ × Utf8 × Utf8)) (inner : Data) (o : Option ℕ)
    → KeepsMembers m (field k v rest) all written digests made old
    → inner ≡ hidden by_sha256 (under (Name k) m) v → o ≡ at (Name k) m
    → between ≡ made ++ all_told (met by_sha256 (under (Name k) m) v)
    → after ≡ put_staying o k inner written → more ≡ digests ++ with_digest by_sha256 o k inner []
    → next ≡ between ++ all_told (taken by_sha256 o (Some k) inner)
    → AllByRecursion IsReadBack (met by_sha256 (under (Name k) m) v)
    → AllByRecursion IsReadBack (taken by_sha256 o (Some k) inner)
    → KeepsMembers m rest all after more next old
keeps_member m k v rest all written after digests more made between next old inner o h value number one two
    three four below own =
    let w = hidden by_sha256 (under (Name k) m) v in
    let p = at (Name k) m in
    record {
      whole = (or_parts (has_float v) (members_have_float rest) h.whole).1;
      told = told_step made between next (old ++ all_told (met_members by_sha256 m all))
          (met by_sha256 (under (Name k) m) v)
          (taken by_sha256 (at (Name k) m) (Some k) (hidden by_sha256 (under (Name k) m) v))
          (met_members by_sha256 m rest) one
          (four ∙ ap (λ ps. between ++ all_told ps) (ap₂ (λ q d. taken by_sha256 q (Some k) d) number value))
          h.told;
      back = λ later. h.back (read_step (met by_sha256 (under (Name k) m) v)
          (taken by_sha256 (at (Name k) m) (Some k) (hidden by_sha256 (under (Name k) m) v))
          (met_members by_sha256 m rest) below
          (subst (AllByRecursion IsReadBack) (ap₂ (λ q d. taken by_sha256 q (Some k) d) number value) own)
          later);
      shown = ap (λ xs. xs ++ own_digests by_sha256 m rest) (three
          ∙ ap (λ xs. digests ++ xs) (ap₂ (λ q d. with_digest by_sha256 q k d []) number value))
          ∙ append_assoc digests (with_digest by_sha256 (at (Name k) m) k
          (hidden by_sha256 (under (Name k) m) v) []) (own_digests by_sha256 m rest)
          ∙ ap (λ xs. digests ++ xs) (digest_one (at (Name k) m) k (hidden by_sha256 (under (Name k) m) v)
          (own_digests by_sha256 m rest)) ∙ h.shown;
      stays = ap (put_all (left_members by_sha256 m rest)) (two
          ∙ ap₂ (λ q d. put_staying q k d written) number value)
          ∙ put_one (at (Name k) m) k (hidden by_sha256 (under (Name k) m) v) (left_members by_sha256 m rest)
          written ∙ h.stays;
    }

-- the same with the names and the path as the calls have them
pub keeps_named : (places : Places) (p q : List Step) (j i k : Utf8) (v : Data)
    (it rest all written after : Fields) (digests more : List Utf8)
    (made between next old : List (ℕ × Utf8 × Utf8)) (inner : Data) (o : Option ℕ)
    → KeepsMembers (marks_at places p) it all written digests made old → q ≡ p → j ≡ k → i ≡ k
    → it ≡ field k v rest
    → inner ≡ hidden by_sha256 (under (Name j) (marks_at places q)) v → o ≡ at (Name j) (marks_at places q)
    → between ≡ made ++ all_told (met by_sha256 (under (Name j) (marks_at places q)) v)
    → after ≡ put_staying o i inner written → more ≡ digests ++ with_digest by_sha256 o i inner []
    → next ≡ between ++ all_told (taken by_sha256 o (Some i) inner)
    → AllByRecursion IsReadBack (met by_sha256 (under (Name j) (marks_at places q)) v)
    → AllByRecursion IsReadBack (taken by_sha256 o (Some i) inner)
    → KeepsMembers (marks_at places p) rest all after more next old
keeps_named places p q j i k v it rest all written after digests more made between next old inner o h is_path
    is_j is_i is_it value number one two three four below own =
    keeps_member (marks_at places p) k v rest all written after digests more made between next old inner o
    (subst (λ r. KeepsMembers (marks_at places p) r all written digests made old) is_it h)
    (value ∙ ap₂ (λ a b. hidden by_sha256 (under (Name a) (marks_at places b)) v) is_j is_path)
    (number ∙ ap₂ (λ a b. at (Name a) (marks_at places b)) is_j is_path)
    (one ∙ ap₂ (λ a b. made ++ all_told (met by_sha256 (under (Name a) (marks_at places b)) v)) is_j is_path)
    (two ∙ ap (λ a. put_staying o a inner written) is_i)
    (three ∙ ap (λ a. digests ++ with_digest by_sha256 o a inner []) is_i)
    (four ∙ ap (λ a. between ++ all_told (taken by_sha256 o (Some a) inner)) is_i)
    (subst (λ b. AllByRecursion IsReadBack (met by_sha256 (under (Name k) (marks_at places b)) v)) is_path
    (subst (λ a. AllByRecursion IsReadBack (met by_sha256 (under (Name a) (marks_at places q)) v)) is_j
    below))
    (subst (λ a. AllByRecursion IsReadBack (taken by_sha256 o (Some a) inner)) is_i own)

pub members_end : (m : Marks) (rest all written : Fields) (digests : List Utf8)
    (made old : List (ℕ × Utf8 × Utf8)) → rest ≡ no_fields → ascend (field_names all) ≡ true
    → KeepsMembers m rest all written digests made old
    → (with_digests digests written ≡ with_digests (own_digests by_sha256 m all)
    (left_members by_sha256 m all)) × (made ≡ old ++ all_told (met_members by_sha256 m all))
    × AllByRecursion IsReadBack (met_members by_sha256 m all)
members_end m rest all written digests made old e up h =
    let left : written ≡ left_members by_sha256 m all =
    ap (λ r. put_all (left_members by_sha256 m r) written) (sym e) ∙ h.stays
    ∙ put_again (left_members by_sha256 m all) (left_ascend by_sha256 m all up) in
    let own : digests ≡ own_digests by_sha256 m all = sym (append-nil digests)
    ∙ ap (λ r. digests ++ own_digests by_sha256 m r) (sym e) ∙ h.shown in (
      ap₂ with_digests own left,
      told_none made
          ∙ ap (λ r. made ++ all_told (met_members by_sha256 m r)) (sym e)
          ∙ h.told,
      h.back (subst (λ r. AllByRecursion IsReadBack (met_members by_sha256 m r)) (sym e) tt),
    )

-- ---- the members of an object in memory ascend

above_first : (k : String Global) (es : List Entry)
    → AllByRecursion (λ y. string_cmp k y ≡ Less) (map (λ e. e.0) es)
    → list_all (below (string_bytes k)) (field_names (members_view es)) ≡ true
above_first k [] h = refl
above_first k (e ∷ es) h = and_from (below (string_bytes k) (string_bytes e.0))
    (list_all (below (string_bytes k)) (field_names (members_view es))) (ap is_lt h.0) (above_first k es h.1)

pub entries_ascend : (es : List Entry) → IsStrictlySortedBy string_cmp (map (λ e. e.0) es)
    → ascend (field_names (members_view es)) ≡ true
unfolding IsStrictlySortedBy
entries_ascend [] h = refl
entries_ascend (e ∷ es) h = and_from (list_all (below (string_bytes e.0)) (field_names (members_view es)))
    (ascend (field_names (members_view es))) (above_first e.0 es h.0) (entries_ascend es h.1)
