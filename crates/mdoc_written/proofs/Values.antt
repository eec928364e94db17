-- The values of elements are read back.
use Rattle.std.proofs.Common.{◌≡◌, ℕ, zero, suc, ◌+◌, ◌<◌, ◌≤◌, ◌^◌, Bool, true, false, List, [], ◌∷◌, ◌++◌}
use Rattle.std.proofs.Common.{length, map}
use Rattle.std.proofs.Common.{Option, Some, None, option_map, option_and_then, Less, Equal, nat_cmp, refl}
use Rattle.std.proofs.Common.{sym, ap, ap₂, ◌∙◌}
use Rattle.std.proofs.Common.{arith, pos, negsuc, ℤ, IsPermutation, subst}
use Rattle.std.specs.Prelude.{unwrap_or, ⊤}
use Rattle.std.specs.List.{AllByRecursion, list_all, concat}
use Rattle.std.specs.Ordering.{is_lt}
use Rattle.std.specs.Cmp.Lexicographic.{slice_cmp}
use Rattle.std.proofs.lemmas.Bool.{and_parts, and_from}
use Rattle.std.proofs.lemmas.Cmp.{nat_list_cmp_total, tied_itself}
use Rattle.std.proofs.lemmas.List.Sorted.{IsPermutation-sym, IsPermutation-map}
use Rattle.serde_json.specs.Data.{Num, unsigned, negative, float, Data, null, boolean, number, string, array}
use Rattle.serde_json.specs.Data.{object}
use Rattle.serde_json.specs.Data.{Items, no_items, item, Members as Fields, no_members as no_fields}
use Rattle.serde_json.specs.Data.{member as field}
use Rattle.claim_tree.specs.Tree.{Tree, Text, Whole, Truth, Null, Bytes, Other, ListOf, RecordOf, Members}
use Rattle.claim_tree.specs.Tree.{ascend}
use Rattle.claim_tree.specs.Tree.{Elements, element}
use Rattle.claim_tree.specs.Parts.{elements_of, members_of}
use Rattle.claim_tree.specs.Plain.{plain_number}
use Rattle.cbor_validity.specs.declared.head.TheConstants.{MAX_DEPTH}
use Rattle.cbor_validity.specs.declared.head.Head.{Head}
use Rattle.cbor_validity.specs.declared.head.Head.TheVariants as head
use Rattle.cbor_core.specs.Grammar.{IsItem}
use Rattle.cbor_core.specs.Head.{head_at, head_of, argument_at}
use Rattle.cbor_core.specs.Keys.{keys_differ, keys_in}
use Rattle.cbor_core.specs.Laws.{IsWhole}
use Rattle.cbor_core.specs.Order.{Pair}
use Rattle.cbor_core.specs.declared.kind.Kind.{Kind}
use Rattle.cbor_core.specs.declared.kind.Kind.TheVariants as kind
use Rattle.cbor_core.specs.Views.{Span, kind_of, whole_of, bytes_of, truth_of, tag_of, utf8_text_of, items_of}
use Rattle.cbor_core.specs.Views.{entries_of}
use Rattle.cbor_core.specs.Writing.{head_bytes, whole_bytes, text_bytes, byte_string_bytes, truth_bytes}
use Rattle.cbor_core.specs.Writing.{null_bytes}
use Rattle.cbor_core.specs.Writing.{pairs_bytes}
use Rattle.cbor_core.proofs.Written.{head_again, head_alone, unsigned_of, negative_of, text_head_of}
use Rattle.cbor_core.proofs.Written.{list_head_of}
use Rattle.cbor_core.proofs.Written.{byte_string_head_of, tag_head_of, map_head_of, reads_whole, reads_text}
use Rattle.cbor_core.proofs.Written.{reads_bytes}
use Rattle.cbor_core.proofs.Written.{reads_truth, reads_null, reads_tag, reads_list}
use Rattle.cbor_core.proofs.Fine.{IsFine, unbroken}
use Rattle.cbor_core.proofs.FineWritten.{AreFinePairs, fine_whole_written, fine_text_written}
use Rattle.cbor_core.proofs.FineWritten.{fine_bytes_written}
use Rattle.cbor_core.proofs.FineWritten.{fine_truth_written, fine_null_written, fine_tag_written}
use Rattle.cbor_core.proofs.FineWritten.{fine_list_written}
use Rattle.cbor_core.proofs.FineWritten.{fine_map_written}
use Rattle.cbor_validity.proofs.Deeper.{all_weaker}
use Rattle.mdoc_items.specs.Value.{Valued, rise, marked, record_of, in_order, named_values, plain_parts}
use Rattle.mdoc_items.specs.Value.{value_at}
use Rattle.mdoc_items.proofs.InOrder.{in_order_is}
use Rattle.mdoc_items.proofs.SortedOnce.{IsAscending}
use Rattle.mdoc_written.specs.Containers.{list_bytes, map_bytes, sorted_map_bytes, by_key, named}
use Rattle.mdoc_written.specs.Element.{Standing, byte_string, full_date, itself, stands_for, object_tree}
use Rattle.mdoc_written.specs.Element.{element_tree}
use Rattle.mdoc_written.specs.Element.{item_trees, member_trees, number_bytes, full_date_bytes, object_bytes}
use Rattle.mdoc_written.specs.Element.{element_bytes, encodings, named_encodings}
use Rattle.mdoc_written.specs.Laws.{IsText, IsInteger, names_of, CanStand, IsElement, AreElements, AreMembers}
use Rattle.mdoc_written.specs.Laws.{ElementsRead}
use Rattle.mdoc_written.proofs.Sorting.{Differ, Strict, by_key_same, by_key_length, all_by_key, strict_by_key}
use Rattle.mdoc_written.proofs.Lengths.{head_some, behind_head, pair_length, by_key_bytes, item_length}
use Rattle.mdoc_written.proofs.Texts.{utf8_written, HasTextKey, text_apart, keys_apart, entries_back}

-- ---- kinds

kind_text : (s : List ℕ) → length s < 2 ^ 64 → kind_of (text_bytes s) ≡ kind.Text
unfolding kind_of
kind_text s lt = rw (head_again 3 (length s) s (head.Text (length s)) lt (text_head_of (length s))) refl

kind_bytes : (s : List ℕ) → length s < 2 ^ 64 → kind_of (byte_string_bytes s) ≡ kind.Bytes
unfolding kind_of
kind_bytes s lt = rw
    (head_again 2 (length s) s (head.Bytes (length s)) lt (byte_string_head_of (length s))) refl

kind_whole : (z : ℤ) → IsWhole z → kind_of (whole_bytes z) ≡ kind.Whole
unfolding kind_of
kind_whole (pos n) lt = rw (head_alone 0 n (head.Unsigned n) lt (unsigned_of n)) refl
kind_whole (negsuc n) lt = rw (head_alone 1 n (head.Negative n) lt (negative_of n)) refl

kind_list : (n : ℕ) (back : List ℕ) → n < 2 ^ 64 → kind_of (head_bytes 4 n ++ back) ≡ kind.List
unfolding kind_of
kind_list n back lt = rw (head_again 4 n back (head.List (Some n)) lt (list_head_of n)) refl

kind_map : (n : ℕ) (back : List ℕ) → n < 2 ^ 64 → kind_of (head_bytes 5 n ++ back) ≡ kind.Map
unfolding kind_of
kind_map n back lt = rw (head_again 5 n back (head.Map (Some n)) lt (map_head_of n)) refl

kind_tag : (n : ℕ) (back : List ℕ) → n < 2 ^ 64 → kind_of (head_bytes 6 n ++ back) ≡ kind.Tag
unfolding kind_of
kind_tag n back lt = rw (head_again 6 n back (head.Tag n) lt (tag_head_of n)) refl

kind_truth : (b : Bool) → kind_of (truth_bytes b) ≡ kind.Truth
unfolding kind_of head_at head_of argument_at
kind_truth true = refl
kind_truth false = refl

-- ---- values alone

abbrev pub Back : ℕ → Span → Tree → Type 0
Back n bytes t = IsFine n bytes × (value_at (suc n) bytes ≡ t)

null_back : (n : ℕ) → Back n null_bytes Null
unfolding value_at
null_back n = (fine_null_written n, rw reads_null.1 refl)

truth_back : (n : ℕ) (b : Bool) → Back n (truth_bytes b) (Truth b)
unfolding value_at
truth_back n b = (fine_truth_written n b, rw (kind_truth b, (reads_truth b).1) refl)

whole_back : (n : ℕ) (z : ℤ) → IsWhole z → Back n (whole_bytes z) (Whole z)
unfolding value_at
whole_back n z is = (fine_whole_written n z is, rw (kind_whole z is, (reads_whole z is).1) refl)

text_back : (n : ℕ) (s : List ℕ) → length s < 2 ^ 64 → IsText s → Back n (text_bytes s) (Text s)
unfolding value_at
text_back n s lt is = (fine_text_written n s lt is, rw (kind_text s lt, utf8_written s lt is) refl)

bytes_back : (n : ℕ) (s : List ℕ) → length s < 2 ^ 64 → Back n (byte_string_bytes s) (Bytes s)
unfolding value_at
bytes_back n s lt = (fine_bytes_written n s lt, rw (kind_bytes s lt, (reads_bytes s lt).1) refl)

date_back : (n : ℕ) (s : List ℕ) → n < MAX_DEPTH → length s < 2 ^ 64 → IsText s
    → Back (suc n) (full_date_bytes s) (Text s)
unfolding value_at
date_back n s less lt is =
    let inner = text_back n s lt is in (
      fine_tag_written n (omega arith) 1004 (text_bytes s) (omega arith) inner.0,
      rw (
        kind_tag 1004 (text_bytes s) (omega arith),
        (reads_tag n 1004 (text_bytes s) (omega arith) (inner.0).item).1,
      ) inner.1,
    )

number_back : (n : ℕ) (x : Num) → IsInteger x → Back n (number_bytes x) (plain_number x)
number_back n (unsigned m) is = whole_back n (pos m) is
number_back n (negative z) is = whole_back n z is
number_back n (float x) is = absurd is

-- ---- lists

-- the items of a list are fine, and their trees are these
abbrev AreItemsBack : ℕ → Items → Type 0
AreItemsBack n ds =
    AllByRecursion (IsFine n) (encodings ds)
    × (elements_of (plain_parts (value_at (suc n)) (encodings ds)) ≡ item_trees ds)

list_back : (n : ℕ) (ds : Items) → n < MAX_DEPTH → length (encodings ds) < 2 ^ 64 → AreItemsBack n ds
    → Back (suc n) (list_bytes (encodings ds)) (ListOf false (item_trees ds))
unfolding value_at
list_back n ds less few back =
    let items = encodings ds in
    let are : AllByRecursion (IsItem n) items =
    all_weaker (IsFine n) (IsItem n) (λ b f. f.item) items back.0 in (
      fine_list_written n items less few back.0,
      rw (
        kind_list (length items) (concat items) few,
        (reads_list n items less few are).1,
        back.1,
      ) refl,
    )

-- ---- the parts of what is short

pub text_shorter : (s : List ℕ) → length s ≤ length (text_bytes s)
text_shorter s = omega (arith, behind_head 3 (length s) s)

-- a member's name and value, and the other members
member_short : (k : List ℕ) (d : Data) (ms : Fields)
    → length (pairs_bytes (named_encodings (field k d ms))) < 2 ^ 64
    → (length k < 2 ^ 64) × (length (element_bytes d) < 2 ^ 64)
    × (length (pairs_bytes (named_encodings ms)) < 2 ^ 64)
member_short k d ms short =
    let parts = pair_length (named k (element_bytes d)) (named_encodings ms) in
    let name = text_shorter k in
    (omega (arith, short, parts, name), omega (arith, short, parts), omega (arith, short, parts))

-- a member takes a byte at least
members_count : (ms : Fields) → length (named_encodings ms) ≤ length (pairs_bytes (named_encodings ms))
members_count no_fields = omega arith
members_count (field k d ms) =
    omega (
      arith,
      pair_length (named k (element_bytes d)) (named_encodings ms),
      behind_head 3 (length k) k,
      members_count ms,
    )

-- ---- no two names of an object are equal

abbrev pub ShortNames : Fields → Type 0
ShortNames ms = AllByRecursion (λ k. length k < 2 ^ 64) (names_of ms)

names_short : (ms : Fields) → length (pairs_bytes (named_encodings ms)) < 2 ^ 64 → ShortNames ms
names_short no_fields short = tt
names_short (field k d ms) short =
    let parts = member_short k d ms short in (parts.0, names_short ms parts.2)

one_apart : (k : List ℕ) (d : Data) (ms : Fields) → length k < 2 ^ 64 → ShortNames ms
    → list_all (λ l. is_lt (slice_cmp nat_cmp k l)) (names_of ms) ≡ true
    → AllByRecursion (Differ (named k (element_bytes d))) (named_encodings ms)
one_apart k d no_fields lt short below = tt
one_apart k d (field l e ms) lt short below =
    let less = λ (m : List ℕ). is_lt (slice_cmp nat_cmp k m) in
    let both = and_parts (less l) (list_all less (names_of ms)) below in (
      text_apart k l (element_bytes d) (element_bytes e) lt short.0 (λ same. absurd (
          let itself : slice_cmp nat_cmp k l ≡ Equal =
          ap (slice_cmp nat_cmp k) (sym same) ∙ tied_itself nat_list_cmp_total k in
          let no_way : true ≡ false = sym both.0 ∙ ap is_lt itself in cc)),
      one_apart k d ms lt short.1 both.1,
    )

pub all_apart : (ms : Fields) → ShortNames ms → ascend (names_of ms) ≡ true
    → IsAscending Differ (named_encodings ms)
all_apart no_fields short up = tt
all_apart (field k d ms) short up =
    let less = λ (m : List ℕ). is_lt (slice_cmp nat_cmp k m) in
    let both = and_parts (list_all less (names_of ms)) (ascend (names_of ms)) up in
    (one_apart k d ms short.0 short.1 both.0, all_apart ms short.1 both.1)

-- ---- maps

abbrev valued : Fields → List Valued
valued no_fields = []
valued (field k d ms) = (k, element_tree d) ∷ valued ms

-- what a reader makes of a pair
abbrev said : ℕ → Pair → Valued
said n p = (unwrap_or (utf8_text_of p.0) [], value_at (suc n) p.1)

abbrev HasName : Pair → Type 0
HasName p = (k : List ℕ) × (utf8_text_of p.0 ≡ Some k)

-- the members of an object are fine under their names, and a reader makes these of them
record AreMembersBack (n : ℕ) (ms : Fields) : Type 0 where
  fine : AreFinePairs n (named_encodings ms)
  keys : AllByRecursion HasTextKey (named_encodings ms)
  named : AllByRecursion HasName (named_encodings ms)
  are : map (said n) (named_encodings ms) ≡ valued ms

said_at : (n : ℕ) (p : Pair) (ps : List Pair) (k : List ℕ) (o : Option (List Valued))
    → utf8_text_of p.0 ≡ Some k → o ≡ Some (map (said n) ps)
    → option_and_then (λ name. option_map (λ ms. (name, value_at (suc n) p.1) ∷ ms) o) (utf8_text_of p.0)
    ≡ Some (map (said n) (p ∷ ps))
said_at n p ps k o e f = rw (e, f) refl

said_all : (n : ℕ) (ps : List Pair) → AllByRecursion HasName ps
    → named_values (value_at (suc n)) ps ≡ Some (map (said n) ps)
said_all n [] all = refl
said_all n (p ∷ ps) all =
    said_at n p ps all.0.0 (named_values (value_at (suc n)) ps) all.0.1 (said_all n ps all.1)

rise_from : (ms : Fields) → ascend (names_of ms) ≡ true → rise (valued ms) ≡ true
rise_from no_fields up = refl
rise_from (field k d no_fields) up = refl
rise_from (field k d (field l e ms)) up =
    let below = λ (m : List ℕ). is_lt (slice_cmp nat_cmp k m) in
    let both = and_parts (list_all below (l ∷ names_of ms)) (ascend (l ∷ names_of ms)) up in
    let first = and_parts (below l) (list_all below (names_of ms)) both.0 in
    and_from (below l) (rise (valued (field l e ms))) first.0 (rise_from (field l e ms) both.1)

members_are : (ms : Fields) → members_of (marked false (valued ms)) ≡ member_trees ms
members_are no_fields = refl
members_are (field k d ms) =
    ap (λ (rest : Members). Rattle.claim_tree.specs.Tree.member k false (element_tree d) rest)
    (members_are ms)

record_at : (ws vs : List Valued) → in_order ws ≡ vs → rise vs ≡ true
    → record_of false ws ≡ RecordOf (members_of (marked false vs))
record_at ws vs e up = rw (e, up) refl

map_read : (n : ℕ) (ms : Fields) → n < MAX_DEPTH → length (named_encodings ms) < 2 ^ 64
    → ascend (names_of ms) ≡ true → IsAscending Differ (named_encodings ms) → AreMembersBack n ms
    → Back (suc n) (sorted_map_bytes (named_encodings ms)) (RecordOf (member_trees ms))
unfolding value_at
map_read n ms less few up apart back =
    let ps = named_encodings ms in
    let qs = by_key ps in
    let short : length qs < 2 ^ 64 = omega (arith, by_key_length ps, few) in
    let fine : AreFinePairs n qs = all_by_key (λ p. IsFine n p.0 × IsFine n p.1) ps back.fine in
    let differ : keys_differ (keys_in qs) ≡ true =
    keys_apart qs (all_by_key HasTextKey ps back.keys) (strict_by_key ps apart) in
    let same : IsPermutation (valued ms) (map (said n) qs) =
    subst (λ (vs : List Valued). IsPermutation vs (map (said n) qs)) back.are
    (IsPermutation-map (said n) ps qs (by_key_same ps)) in
    let order : in_order (map (said n) qs) ≡ valued ms =
    in_order_is (map (said n) qs) (valued ms) (IsPermutation-sym (valued ms) (map (said n) qs) same)
    (rise_from ms up) in (
      fine_map_written n qs less short fine differ,
      rw (
        kind_map (length qs) (pairs_bytes qs) short,
        entries_back n qs less short fine,
        said_all n qs (all_by_key HasName ps back.named),
      ) (record_at (map (said n) qs) (valued ms) order (rise_from ms up) ∙ ap RecordOf (members_are ms)),
    )

-- ---- objects by what they stand for

object_back : (s : Standing) (n : ℕ) (ms : Fields) → n ≤ MAX_DEPTH
    → length (object_bytes s (named_encodings ms)) < 2 ^ 64
    → ascend (names_of ms) ≡ true → CanStand s n (AreMembers ms)
    → ((m : ℕ) → m < MAX_DEPTH → length (pairs_bytes (named_encodings ms)) < 2 ^ 64 → AreMembers ms m
    → AreMembersBack m ms)
    → Back n (object_bytes s (named_encodings ms)) (object_tree s (member_trees ms))
object_back (byte_string bytes) n ms le short up is inner =
    bytes_back n bytes (omega (arith, behind_head 2 (length bytes) bytes, short))
object_back (full_date text) zero ms le short up is inner = absurd is
object_back (full_date text) (suc n) ms le short up is inner =
    date_back n text (omega arith)
    (omega (arith, behind_head 6 1004 (text_bytes text), text_shorter text, short)) is
object_back itself zero ms le short up is inner = absurd is
object_back itself (suc n) ms le short up is inner =
    let ps = named_encodings ms in
    let less : length (pairs_bytes ps) < 2 ^ 64 =
    omega (arith, behind_head 5 (length (by_key ps)) (pairs_bytes (by_key ps)), by_key_bytes ps, short) in
    map_read n ms (omega arith) (omega (arith, members_count ms, less)) up
    (all_apart ms (names_short ms less) up)
    (inner n (omega arith) less is)

-- ---- all values

cons_back : (n : ℕ) (k : List ℕ) (d : Data) (ms : Fields) → length k < 2 ^ 64 → IsText k
    → Back n (element_bytes d) (element_tree d) → AreMembersBack n ms → AreMembersBack n (field k d ms)
cons_back n k d ms lt is here rest = record {
  fine = ((fine_text_written n k lt is, here.0), rest.fine);
  keys = ((k, lt, refl), rest.keys);
  named = ((k, utf8_written k lt is), rest.named);
  are =
      ap₂ (λ (v : Valued) (vs : List Valued). v ∷ vs)
      (ap₂ (λ (name : List ℕ) (t : Tree). (name, t))
      (ap (λ (o : Option (List ℕ)). unwrap_or o []) (utf8_written k lt is)) here.1) rest.are;
}

-- an encoding has a byte at least
object_some : (s : Standing) (ps : List Pair) → 1 ≤ length (object_bytes s ps)
object_some (byte_string bytes) ps = omega (arith, behind_head 2 (length bytes) bytes)
object_some (full_date text) ps = omega (arith, behind_head 6 1004 (text_bytes text))
object_some itself ps = omega (arith, behind_head 5 (length (by_key ps)) (pairs_bytes (by_key ps)))

whole_some : (z : ℤ) → 1 ≤ length (whole_bytes z)
whole_some (pos n) = head_some 0 n
whole_some (negsuc n) = head_some 1 n

number_some : (x : Num) → IsInteger x → 1 ≤ length (number_bytes x)
number_some (unsigned n) is = whole_some (pos n)
number_some (negative z) is = whole_some z
number_some (float x) is = absurd is

truth_some : (b : Bool) → 1 ≤ length (truth_bytes b)
truth_some true = omega arith
truth_some false = omega arith

element_some : (d : Data) (n : ℕ) → IsElement d n → 1 ≤ length (element_bytes d)
element_some null n is = omega arith
element_some (boolean b) n is = truth_some b
element_some (number x) n is = number_some x is
element_some (string s) n is = omega (arith, behind_head 3 (length s) s)
element_some (array ds) n is =
    omega (arith, behind_head 4 (length (encodings ds)) (concat (encodings ds)))
element_some (object ms) n is = object_some (stands_for ms) (named_encodings ms)

items_count : (ds : Items) (n : ℕ) → AreElements ds n → length (encodings ds) ≤ length (concat (encodings ds))
items_count no_items n is = omega arith
items_count (item d ds) n is =
    omega (
      arith,
      element_some d n is.0,
      item_length (element_bytes d) (encodings ds),
      items_count ds n is.1,
    )

mutual
  element_back : (d : Data) (n : ℕ) → n < MAX_DEPTH → length (element_bytes d) < 2 ^ 64 → IsElement d n
      → Back n (element_bytes d) (element_tree d)
  element_back null n less short is = null_back n
  element_back (boolean b) n less short is = truth_back n b
  element_back (number x) n less short is = number_back n x is
  element_back (string s) n less short is = text_back n s (omega (arith, text_shorter s, short)) is
  element_back (array ds) zero less short is = absurd is
  element_back (array ds) (suc n) less short is =
      let xs = encodings ds in
      let all : length (concat xs) < 2 ^ 64 = omega (arith, behind_head 4 (length xs) (concat xs), short) in
      list_back n ds (omega arith) (omega (arith, items_count ds n is, all))
      (items_back ds n (omega arith) all is)
  element_back (object ms) n less short is =
      object_back (stands_for ms) n ms (omega arith) short is.0 is.1 (members_back ms)

  items_back : (ds : Items) (n : ℕ) → n < MAX_DEPTH → length (concat (encodings ds)) < 2 ^ 64
      → AreElements ds n → AreItemsBack n ds
  items_back no_items n less short is = (tt, refl)
  items_back (item d ds) n less short is =
      let parts = item_length (element_bytes d) (encodings ds) in
      let here = element_back d n less (omega (arith, parts, short)) is.0 in
      let rest = items_back ds n less (omega (arith, parts, short)) is.1 in (
        (here.0, rest.0),
        ap₂ (λ (t : Tree) (es : Elements). element false t es) here.1 rest.1,
      )

  members_back : (ms : Fields) (n : ℕ) → n < MAX_DEPTH → length (pairs_bytes (named_encodings ms)) < 2 ^ 64
      → AreMembers ms n → AreMembersBack n ms
  members_back no_fields n less short is = record { fine = tt; keys = tt; named = tt; are = refl }
  members_back (field k d ms) n less short is =
      let parts = member_short k d ms short in
      cons_back n k d ms parts.0 is.0 (element_back d n less parts.1 is.1)
      (members_back ms n less parts.2 is.2)

pub elements_read : ElementsRead
elements_read n d less short is =
    let back = element_back d n less short is in (unbroken n (element_bytes d) back.0, back.1)

pub element_fine : (d : Data) (n : ℕ) → n < MAX_DEPTH → length (element_bytes d) < 2 ^ 64 → IsElement d n
    → IsFine n (element_bytes d)
element_fine d n less short is = (element_back d n less short is).0
