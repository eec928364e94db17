-- The names of namespaces differ, and so do the numbers of items.
use Rattle.std.proofs.Common.{◌≡◌, ℕ, suc, ◌+◌, ◌<◌, ◌≤◌, ◌^◌, true, false, List, length, map, Some}
use Rattle.std.proofs.Common.{Ordering, Less, Equal, Greater, nat_cmp, pos, refl, sym, ap, ◌∙◌, arith}
use Rattle.std.specs.List.{list_all, AllByRecursion}
use Rattle.std.specs.Ordering.{is_eq, is_lt}
use Rattle.std.specs.Cmp.Lexicographic.{slice_cmp}
use Rattle.std.proofs.lemmas.Bool.{and_parts}
use Rattle.std.proofs.lemmas.Cmp.{nat_list_cmp_total, tied_itself}
use Rattle.std.proofs.lemmas.Map.Text.{is_eq-slice_cmp}
use Rattle.serde_json.specs.Data.{Members as Fields, no_members as no_fields, member as field}
use Rattle.base_forms.specs.Hash.{digest_by}
use Rattle.base_forms.specs.declared.hash.HashName.TheVariants.{Sha256}
use Rattle.base_forms.proofs.Differing.{same_from}
use Rattle.claim_tree.specs.Tree.{ascend}
use Rattle.cbor_core.specs.Order.{Pair}
use Rattle.cbor_core.specs.Views.{Span, whole_of}
use Rattle.cbor_core.specs.Writing.{whole_bytes, byte_string_bytes}
use Rattle.cbor_core.proofs.Written.{reads_whole}
use Rattle.mdoc_items.specs.IssuerSignedItems.{most_items}
use Rattle.mdoc_written.specs.Containers.{Differ, AllRelated, named}
use Rattle.mdoc_written.specs.Item.{item_bytes}
use Rattle.mdoc_written.specs.Laws.{names_of}
use Rattle.mdoc_written.proofs.Sorting.{by_first}
use Rattle.mdoc_written.proofs.Texts.{text_apart}
use Rattle.mdoc_written.proofs.Values.{ShortNames}
use Rattle.mdoc_object.specs.Namespaces.{WrittenNamespace, elements_in, member_count, element_count}
use Rattle.mdoc_object.specs.Namespaces.{items_from, namespaces_from, written_namespaces, items_entry}
use Rattle.mdoc_object.specs.ValueDigests.{digest_entry, digests_entry}
use Rattle.mdoc_object.specs.code.Written.{NumbersDiffer, AllDiffer}

not_equal : (o : Ordering) → (o ≡ Equal → ⊥) → is_eq o ≡ false
not_equal Less h = refl
not_equal Equal h = absurd (h refl)
not_equal Greater h = refl

-- ---- names

other_name : (k l : List ℕ) → is_lt (slice_cmp nat_cmp k l) ≡ true → k ≡ l → ⊥
other_name k l less same =
    let itself : slice_cmp nat_cmp k l ≡ Equal =
    ap (slice_cmp nat_cmp k) (sym same) ∙ tied_itself nat_list_cmp_total k in
    let no_way : true ≡ false = sym less ∙ ap is_lt itself in cc

-- an entry is the name of a namespace, and what is made of it
abbrev pub entry : (WrittenNamespace → Span) → WrittenNamespace → Pair
entry f w = named w.name (f w)

name_apart : (f : WrittenNamespace → Span) (n : ℕ) (k : List ℕ) (x : Span) (ms : Fields) → length k < 2 ^ 64
    → ShortNames ms → list_all (λ l. is_lt (slice_cmp nat_cmp k l)) (names_of ms) ≡ true
    → AllByRecursion (Differ (named k x)) (map (entry f) (namespaces_from n ms))
name_apart f n k x no_fields lt short below = tt
name_apart f n k x (field l d ms) lt short below =
    let less = λ (m : List ℕ). is_lt (slice_cmp nat_cmp k m) in
    let both = and_parts (less l) (list_all less (names_of ms)) below in
    let here : WrittenNamespace = record { name = l; items = items_from n (elements_in d) } in (
      not_equal (by_first (named k x) (entry f here))
          (text_apart k l x (f here) lt short.0 (other_name k l both.0)),
      name_apart f (n + member_count (elements_in d)) k x ms lt short.1 both.1,
    )

pub names_apart : (f : WrittenNamespace → Span) (n : ℕ) (ms : Fields) → ShortNames ms
    → ascend (names_of ms) ≡ true → AllRelated Differ (map (entry f) (namespaces_from n ms))
names_apart f n no_fields short up = tt
names_apart f n (field k d ms) short up =
    let less = λ (m : List ℕ). is_lt (slice_cmp nat_cmp k m) in
    let both = and_parts (list_all less (names_of ms)) (ascend (names_of ms)) up in
    let here : WrittenNamespace = record { name = k; items = items_from n (elements_in d) } in (
      name_apart f (n + member_count (elements_in d)) k (f here) ms short.0 short.1 both.0,
      names_apart f (n + member_count (elements_in d)) ms short.1 both.1,
    )

-- ---- numbers

whole_apart : (m n : ℕ) (x y : Span) → m < n → n < 2 ^ 64
    → Differ (whole_bytes (pos m), x) (whole_bytes (pos n), y)
whole_apart m n x y lt small =
    not_equal (by_first (whole_bytes (pos m), x) (whole_bytes (pos n), y)) (λ e. absurd (
    let same : whole_bytes (pos m) ≡ whole_bytes (pos n) =
    same_from (whole_bytes (pos m)) (whole_bytes (pos n))
    (sym (is_eq-slice_cmp (whole_bytes (pos m)) (whole_bytes (pos n))) ∙ ap is_eq e) in
    let wholes : Some (pos m) ≡ Some (pos n) =
    sym (reads_whole (pos m) (omega (arith, lt, small))).1 ∙ ap whole_of same
    ∙ (reads_whole (pos n) small).1 in
    let numbers : m ≡ n = cc in omega (arith, numbers, lt)))

number_apart : (m n : ℕ) (x : Span) (ms : Fields) → m < n → n + member_count ms < 2 ^ 64
    → AllByRecursion (Differ (whole_bytes (pos m), x)) (map digest_entry (items_from n ms))
number_apart m n x no_fields lt small = tt
number_apart m n x (field k d ms) lt small = (
  whole_apart m n x (byte_string_bytes (digest_by Sha256 (item_bytes n k d))) lt (omega arith),
  number_apart m (suc n) x ms (omega arith) (omega arith),
)

pub numbers_apart : (n : ℕ) (ms : Fields) → n + member_count ms < 2 ^ 64
    → AllRelated Differ (map digest_entry (items_from n ms))
numbers_apart n no_fields small = tt
numbers_apart n (field k d ms) small = (
  number_apart n (suc n) (byte_string_bytes (digest_by Sha256 (item_bytes n k d))) ms (omega arith)
      (omega arith),
  numbers_apart (suc n) ms (omega arith),
)

pub all_numbers_apart : (n : ℕ) (ms : Fields) → n + element_count ms < 2 ^ 64
    → AllByRecursion NumbersDiffer (namespaces_from n ms)
all_numbers_apart n no_fields small = tt
all_numbers_apart n (field k d ms) small = (
  numbers_apart n (elements_in d) (omega arith),
  all_numbers_apart (n + member_count (elements_in d)) ms (omega arith),
)

-- ---- both

pub all_differ : (ms : Fields) → ShortNames ms → ascend (names_of ms) ≡ true → element_count ms ≤ most_items
    → AllDiffer (written_namespaces ms)
all_differ ms short up few = record {
  lists = names_apart (λ w. (items_entry w).1) 0 ms short up;
  digests = names_apart (λ w. (digests_entry w).1) 0 ms short up;
  numbers = all_numbers_apart 0 ms (omega (arith, few));
}
