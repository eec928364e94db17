-- `nameSpaces` is read back: each namespace gives its members.
use Rattle.std.proofs.Common.{◌≡◌, ℕ, ◌+◌, ◌<◌, ◌^◌, true, List, [], ◌∷◌, ◌++◌}
use Rattle.std.proofs.Common.{length, map, Some, is_some, nat_cmp, refl, sym, ap, ap₂, ◌∙◌}
use Rattle.std.proofs.Common.{arith, subst}
use Rattle.std.specs.List.{AllByRecursion, list_all, concat, sum_by}
use Rattle.std.specs.Ordering.{is_lt}
use Rattle.std.specs.Cmp.Lexicographic.{slice_cmp}
use Rattle.std.proofs.lemmas.Bool.{and_parts, and_from}
use Rattle.std.proofs.lemmas.List.{length-map}
use Rattle.std.proofs.lemmas.List.Sums.{sum_by-cons}
use Rattle.std.proofs.lemmas.List.Sorted.{IsPermutation-sym, IsPermutation-map, sum_by-IsPermutation}
use Rattle.serde_json.specs.Data.{Members as Fields, no_members as no_fields, member as field}
use Rattle.base_forms.specs.declared.hash.HashName.TheVariants.{Sha256}
use Rattle.claim_tree.specs.Tree.{RecordOf, Members, member, ascend}
use Rattle.claim_tree.specs.Parts.{members_of}
use Rattle.cbor_validity.specs.declared.head.Head.TheVariants as head
use Rattle.cbor_core.specs.Order.{Pair}
use Rattle.cbor_core.specs.Views.{Span, is_map, kind_of, entries_of, items_of as items_in_list, utf8_text_of}
use Rattle.cbor_core.specs.Writing.{head_bytes, text_bytes}
use Rattle.cbor_core.proofs.Written.{head_again, list_head_of, reads_list}
use Rattle.cbor_core.proofs.Fine.{IsFine}
use Rattle.cbor_core.proofs.FineWritten.{fine_text_written, fine_list_written}
use Rattle.cbor_core.specs.Grammar.{IsItem}
use Rattle.mdoc_items.specs.MapFields.{is_list, embedded}
use Rattle.mdoc_items.specs.IssuerSignedItems.{item_count}
use Rattle.mdoc_items.specs.Value.{Valued, rise, marked}
use Rattle.mdoc_items.proofs.SortedOnce.{all_weaker}
use Rattle.mdoc_view.specs.IssuerSigned.{are_embedded, is_namespace, namespaces_of}
use Rattle.mdoc_view.specs.Relation.{GiveNamespaces, IsHeldRecord, no_more, namespace as one_namespace}
use Rattle.mdoc_object.specs.Namespaces.{elements_in, member_count, element_count}
use Rattle.mdoc_object.proofs.Counts.{items_count}
use Rattle.mdoc_written.specs.Containers.{list_bytes, sorted_map_bytes, AllRelated}
use Rattle.mdoc_written.specs.Laws.{names_of}
use Rattle.mdoc_written.proofs.Texts.{utf8_written}
use Rattle.mdoc_issue.specs.Asked.{element_members, namespace_members}
use Rattle.mdoc_issue.proofs.Members.{IsFound as HasDigest, members_given, spans_embedded, spans_fine}
use Rattle.mdoc_issue.proofs.Members.{elements_held}
use Rattle.mdoc_issue.proofs.Placing.{sorted, sorted_same, all_sorted}
use Rattle.mdoc_issue.proofs.SortedMaps.{list_all_mapped, KeysApart, IsFineAt, IsRead, map_read}
use Rattle.mdoc_issue.proofs.Spaces.{Space, items_of, spans_of, spaces_from, IsGood, Unlike, entry}
use Rattle.mdoc_issue.proofs.Spaces.{keys_apart}
use Rattle.mdoc_issue.proofs.Spaces.{related_with}
use Rattle.mdoc_issue.proofs.ValueDigests.{entry_at}

-- ---- the list of a namespace's items

abbrev pub items_list : Space → Span
items_list s = list_bytes (spans_of s)

kind_list : (n : ℕ) (back : List ℕ) → n < 2 ^ 64 → is_list (kind_of (head_bytes 4 n ++ back)) ≡ true
unfolding kind_of
kind_list n back lt = rw (head_again 4 n back (head.List (Some n)) lt (list_head_of n)) refl

count_is : (s : Space) → length (spans_of s) ≡ member_count s.elements
count_is s = length-map (items_of s) (λ i. i.bytes) ∙ items_count s.number s.elements

-- the list is one item, with these items, which are embedded
record ListIsRead (s : Space) : Type 0 where
  fine : IsFine 30 (items_list s)
  items : items_in_list (items_list s) ≡ spans_of s
  of_form : are_embedded (items_list s) ≡ true

form_at : (list : Span) (spans : List Span) → is_list (kind_of list) ≡ true → items_in_list list ≡ spans
    → list_all (λ i. is_some (embedded i)) spans ≡ true → are_embedded list ≡ true
form_at list spans a b c = rw (a, b, c) refl

list_read : (s : Space) → IsGood s → ListIsRead s
list_read s good =
    let spans = spans_of s in
    let few : length spans < 2 ^ 64 = omega (arith, count_is s, good.few) in
    let fine = spans_fine 28 (omega arith) s.number s.elements good.members good.few good.spans_short in
    let items : items_in_list (list_bytes spans) ≡ spans =
    (reads_list 29 spans (omega arith) few
    (all_weaker (IsFine 29) (IsItem 29) (λ b f. f.item) spans fine)).1 in
    record {
      fine = fine_list_written 29 spans (omega arith) few fine;
      items = items;
      of_form = form_at (list_bytes spans) spans (kind_list (length spans) (concat spans) few) items
          (spans_embedded s.number s.elements good.members good.few good.spans_short);
    }

-- ---- the map of the lists

abbrev pub lists : Space → Pair
lists = entry items_list

is_fine : (s : Space) → IsGood s → IsFineAt lists 30 s
is_fine s good = (fine_text_written 30 s.name good.short good.of_text, (list_read s good).fine)

is_entry : (s : Space) → IsGood s → is_namespace (lists s) ≡ true
is_entry s good =
    entry_at (utf8_text_of (text_bytes s.name)) s.name (are_embedded (items_list s))
    (utf8_written s.name good.short good.of_text) (list_read s good).of_form

map_form : (span : Span) (entries : List Pair) → is_map (kind_of span) ≡ true → entries_of span ≡ entries
    → list_all is_namespace entries ≡ true → namespaces_of span ≡ Some entries
map_form span entries a b c = rw (a, b, c) refl

-- ---- how many items there are

entry_count : (s : Space) → IsGood s → length (items_in_list (lists s).1) ≡ member_count s.elements
entry_count s good = ap length (list_read s good).items ∙ count_is s

counted : (ss : List Space) → AllByRecursion IsGood ss
    → item_count (map lists ss) ≡ sum_by (λ s. member_count s.elements) ss
counted [] good = refl
counted (s ∷ ss) good =
    ap₂ (λ (m n : ℕ). m + n) (entry_count s good.0) (counted ss good.1)
    ∙ sym (sum_by-cons (λ (x : Space). member_count x.elements) s ss)

all_counted : (n : ℕ) (ms : Fields) → sum_by (λ s. member_count s.elements) (spaces_from n ms)
    ≡ element_count ms
all_counted n no_fields = refl
all_counted n (field k d ms) =
    sum_by-cons (λ (x : Space). member_count x.elements)
    (record { number = n; name = k; elements = elements_in d })
    (spaces_from (n + member_count (elements_in d)) ms)
    ∙ ap (λ (m : ℕ). member_count (elements_in d) + m) (all_counted (n + member_count (elements_in d)) ms)

-- ---- what the namespaces give

abbrev pub valued_space : Space → Valued
valued_space s = (s.name, RecordOf (element_members s.elements))

abbrev pub HasDigests : List Pair → Space → Type 0
HasDigests digests s = AllByRecursion (HasDigest digests s.name) (items_of s)

module _ (digests : List Pair) where
  all_given : (ss : List Space) → AllByRecursion IsGood ss → AllByRecursion (HasDigests digests) ss
      → GiveNamespaces Sha256 digests (map lists ss) (map valued_space ss)
  all_given [] good found = no_more
  all_given (s ∷ ss) good found =
      let here = good.0 in
      let read = list_read s here in
      one_namespace (utf8_written s.name here.short here.of_text)
      (subst (λ (spans : List Span).
      Rattle.mdoc_view.specs.Relation.GiveMembers Sha256 digests s.name spans
      (Rattle.mdoc_issue.proofs.Members.read_members s.elements)) (sym read.items)
      (members_given digests s.name s.number s.elements here.members here.few here.spans_short found.0))
      (elements_held s.number s.elements here.members here.spans_short here.up)
      (all_given ss good.1 found.1)

-- ---- the record of the namespaces

rise_from : (n : ℕ) (ms : Fields) → ascend (names_of ms) ≡ true
    → rise (map valued_space (spaces_from n ms)) ≡ true
rise_from n no_fields up = refl
rise_from n (field k d no_fields) up = refl
rise_from n (field k d (field l e ms)) up =
    let m = n + member_count (elements_in d) in
    let below = λ (x : List ℕ). is_lt (slice_cmp nat_cmp k x) in
    let both = and_parts (list_all below (l ∷ names_of ms)) (ascend (l ∷ names_of ms)) up in
    let first = and_parts (below l) (list_all below (names_of ms)) both.0 in
    and_from (below l) (rise (map valued_space (spaces_from m (field l e ms)))) first.0
    (rise_from m (field l e ms) both.1)

members_are : (n : ℕ) (ms : Fields)
    → members_of (marked true (map valued_space (spaces_from n ms))) ≡ namespace_members ms
members_are n no_fields = refl
members_are n (field k d ms) =
    ap (λ (rest : Members). member k true (RecordOf (element_members (elements_in d))) rest)
    (members_are (n + member_count (elements_in d)) ms)

held : (ms : Fields) → ascend (names_of ms) ≡ true
    → IsHeldRecord (map valued_space (sorted lists (spaces_from 0 ms))) (RecordOf (namespace_members ms))
held ms up =
    let ss = spaces_from 0 ms in
    let zs = sorted lists ss in (
      map valued_space ss,
      IsPermutation-sym (map valued_space ss) (map valued_space zs)
          (IsPermutation-map valued_space ss zs (sorted_same lists ss)),
      rise_from 0 ms up,
      ap RecordOf (sym (members_are 0 ms)),
    )

-- ---- all of it

-- The map is one item of the form, of as many items as there are elements, and it gives the tree that was
-- asked.
pub record AreRead (ms : Fields) (span : Span) (entries digests : List Pair)
    (members : List Valued) : Type 0 where
  pub fine : IsFine 31 span
  pub of_form : namespaces_of span ≡ Some entries
  pub count : item_count entries ≡ element_count ms
  pub give : GiveNamespaces Sha256 digests entries members
  pub is_held : IsHeldRecord members (RecordOf (namespace_members ms))

pub lists_read : (ms : Fields) (digests : List Pair) → length (spaces_from 0 ms) < 2 ^ 64
    → AllByRecursion IsGood (spaces_from 0 ms) → AllRelated Unlike (spaces_from 0 ms)
    → AllByRecursion (HasDigests digests) (spaces_from 0 ms) → ascend (names_of ms) ≡ true
    → AreRead ms (sorted_map_bytes (map lists (spaces_from 0 ms)))
    (map lists (sorted lists (spaces_from 0 ms))) digests (map valued_space (sorted lists (spaces_from 0 ms)))
lists_read ms digests few good unlike found up =
    let ss = spaces_from 0 ms in
    let zs = sorted lists ss in
    let goods = all_sorted lists IsGood ss good in
    let read : IsRead lists 30 ss =
    map_read lists 30 ss (omega arith) few (all_weaker IsGood (IsFineAt lists 30) is_fine ss good)
    (related_with IsGood Unlike (KeysApart lists)
    (λ s t gs gt u. keys_apart items_list s t gs.short gt.short u) ss good unlike) in
    record {
      fine = read.fine;
      of_form = map_form (sorted_map_bytes (map lists ss)) (map lists zs) read.of_map read.entries
          (list_all_mapped lists is_namespace zs
          (all_weaker IsGood (λ s. is_namespace (lists s) ≡ true) is_entry zs goods));
      count = counted zs goods
          ∙ sum_by-IsPermutation (λ s. member_count s.elements) ss zs (sorted_same lists ss)
          ∙ all_counted 0 ms;
      give = all_given digests zs goods (all_sorted lists (HasDigests digests) ss found);
      is_held = held ms up;
    }
