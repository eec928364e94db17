-- The digests of a namespace's items are found by their numbers.
use Rattle.std.proofs.Common.{◌≡◌, ℕ, suc, ◌+◌, ◌<◌, ◌^◌, ◌==◌, true, false, List, [], ◌∷◌, length, map}
use Rattle.std.proofs.Common.{Option, Some, None, pos, cond, refl, sym, ap, ◌∙◌, arith, inl, inr}
use Rattle.std.specs.List.{AllByRecursion}
use Rattle.std.specs.Option.{option_or}
use Rattle.std.specs.Ordering.{int_eq}
use Rattle.std.proofs.lemmas.Bool.{cases_Bool}
use Rattle.std.proofs.lemmas.Bool.Decides.{nat_tests, Decides-int_eq}
use Rattle.sha2.specs.Sha256.{sha256, digest_bytes, final_hash, initial_hash_256}
use Rattle.serde_json.specs.Data.{Members as Fields, no_members as no_fields, member as field}
use Rattle.base_forms.specs.Hash.{digest_by}
use Rattle.base_forms.specs.declared.hash.HashName.TheVariants.{Sha256}
use Rattle.cbor_validity.specs.declared.head.TheConstants.{MAX_DEPTH}
use Rattle.cbor_validity.specs.declared.head.Head.TheVariants as head
use Rattle.cbor_core.specs.Keys.{key_of, whole}
use Rattle.cbor_core.specs.Order.{Pair}
use Rattle.cbor_core.specs.Views.{Span, bytes_of, entries_of, is_map, kind_of}
use Rattle.cbor_core.specs.Writing.{whole_bytes}
use Rattle.cbor_core.proofs.Written.{head_alone, unsigned_of, reads_whole, reads_bytes}
use Rattle.cbor_core.proofs.Fine.{IsFine}
use Rattle.cbor_core.proofs.FineWritten.{fine_whole_written, fine_bytes_written}
use Rattle.mdoc_items.proofs.SortedOnce.{all_weaker}
use Rattle.mdoc_security.specs.ValueDigests.{is_numbered, digest_in, is_digest, is_digest_map}
use Rattle.mdoc_object.specs.Namespaces.{WrittenItem, member_count, items_from}
use Rattle.mdoc_object.specs.ValueDigests.{digest_entry}
use Rattle.mdoc_object.proofs.Counts.{items_count}
use Rattle.mdoc_written.specs.Containers.{sorted_map_bytes, AllRelated}
use Rattle.mdoc_written.specs.Item.{item_bytes}
use Rattle.mdoc_issue.proofs.Finding.{find_last, Apart, Own, IsFound, all_found}
use Rattle.mdoc_issue.proofs.Placing.{sorted, all_sorted, sorted_back, related_sorted}
use Rattle.mdoc_issue.proofs.SortedMaps.{related_weaker, list_all_mapped, KeysApart, IsFineAt, IsRead}
use Rattle.mdoc_issue.proofs.SortedMaps.{map_read}

-- ---- a digest has 32 bytes

length_of : (h : List ℕ) → length (digest_bytes h 8) ≡ 32
unfolding digest_bytes
length_of h = refl

pub digest_length : (bytes : List ℕ) → length (digest_by Sha256 bytes) ≡ 32
unfolding sha256
digest_length bytes = length_of (final_hash initial_hash_256 bytes)

digest_short : (bytes : List ℕ) → length (digest_by Sha256 bytes) < 2 ^ 64
digest_short bytes = omega (arith, digest_length bytes)

-- ---- numbers as keys

numbered_is : (n m : ℕ) → m < 2 ^ 64 → is_numbered n (whole_bytes (pos m)) ≡ (m == n)
numbered_is n m lt = rw (reads_whole (pos m) lt).1 refl

key_number : (n : ℕ) → n < 2 ^ 64 → key_of (whole_bytes (pos n)) ≡ whole (pos n)
unfolding key_of
key_number n lt = rw (head_alone 0 n (head.Unsigned n) lt (unsigned_of n)) refl

differs : (m n : ℕ) → (m ≡ n → ⊥) → (m == n) ≡ false
differs m n other = grind (arith, nat_tests)

itself : (n : ℕ) → (n == n) ≡ true
itself n = grind (arith, nat_tests)

whole_differs : (m n : ℕ) → (m ≡ n → ⊥) → int_eq (pos m) (pos n) ≡ false
whole_differs m n other = elim (cases_Bool (int_eq (pos m) (pos n))) [
  | inl is ↦ absurd (other (let same : pos m ≡ pos n = (Decides-int_eq (pos m) (pos n)).0 is in cc))
  | inr not ↦ not
]

-- the numbers of two items are small, and differ
pub record Unlike (i j : WrittenItem) : Type 0 where
  pub other : i.number ≡ j.number → ⊥
  pub first : i.number < 2 ^ 64
  pub second : j.number < 2 ^ 64

unlike_flip : (i j : WrittenItem) → Unlike i j → Unlike j i
unlike_flip i j u = record { other = λ e. u.other (sym e); first = u.second; second = u.first }

one_unlike : (i : WrittenItem) (n : ℕ) (ms : Fields) → i.number < n → n + member_count ms < 2 ^ 64
    → AllByRecursion (Unlike i) (items_from n ms)
one_unlike i n no_fields lt small = tt
one_unlike i n (field k d ms) lt small = (
  record {
    other = λ e. absurd (omega (arith, e, lt));
    first = omega (arith, lt, small);
    second = omega (arith, small);
  },
  one_unlike i (suc n) ms (omega (arith, lt)) (omega (arith, small)),
)

pub all_unlike : (n : ℕ) (ms : Fields) → n + member_count ms < 2 ^ 64 → AllRelated Unlike (items_from n ms)
all_unlike n no_fields small = tt
all_unlike n (field k d ms) small = (
  one_unlike (record { number = n; bytes = item_bytes n k d }) (suc n) ms (omega arith)
      (omega (arith, small)),
  all_unlike (suc n) ms (omega (arith, small)),
)

abbrev IsSmall : WrittenItem → Type 0
IsSmall i = i.number < 2 ^ 64

all_small : (n : ℕ) (ms : Fields) → n + member_count ms < 2 ^ 64 → AllByRecursion IsSmall (items_from n ms)
all_small n no_fields small = tt
all_small n (field k d ms) small = (omega (arith, small), all_small (suc n) ms (omega (arith, small)))

-- ---- looking up

abbrev here : WrittenItem → Pair → Option (List ℕ)
here i p = cond (is_numbered i.number p.0) (bytes_of p.1) None

abbrev digest_of : WrittenItem → List ℕ
digest_of i = digest_by Sha256 i.bytes

digest_in_is : (i : WrittenItem) (ps : List Pair)
    → digest_in i.number ps ≡ find_last digest_entry here i ps
digest_in_is i [] = refl
digest_in_is i (p ∷ ps) = ap (λ (o : Option (List ℕ)). option_or o (here i p)) (digest_in_is i ps)

not_here : (i j : WrittenItem) → (i.number ≡ j.number → ⊥) → j.number < 2 ^ 64
    → here i (digest_entry j) ≡ None
not_here i j other lt =
    rw (numbered_is i.number j.number lt, differs j.number i.number (λ e. other (sym e))) refl

apart : (i j : WrittenItem) → Unlike i j → Apart digest_entry here i j
apart i j u = (not_here i j u.other u.second, not_here j i (λ e. u.other (sym e)) u.first)

own : (i : WrittenItem) → IsSmall i → Own digest_entry here digest_of i
own i lt =
    rw (
      numbered_is i.number i.number lt,
      itself i.number,
      (reads_bytes (digest_of i) (digest_short i.bytes)).1,
    ) refl

found_sorted : (items : List WrittenItem) → AllByRecursion IsSmall items → AllRelated Unlike items
    → AllByRecursion (IsFound digest_entry here digest_of
    (map digest_entry (sorted digest_entry items))) items
found_sorted items small unlike =
    let zs = sorted digest_entry items in
    sorted_back digest_entry (IsFound digest_entry here digest_of (map digest_entry zs)) items
    (all_found digest_entry here digest_of zs
    (all_weaker IsSmall (Own digest_entry here digest_of) own zs
    (all_sorted digest_entry IsSmall items small))
    (related_weaker Unlike (Apart digest_entry here) apart zs
    (related_sorted digest_entry Unlike unlike_flip items unlike)))

-- ---- the map

keys_apart : (i j : WrittenItem) → Unlike i j → KeysApart digest_entry i j
keys_apart i j u = (
  rw (key_number i.number u.first, key_number j.number u.second) (whole_differs i.number j.number u.other),
  rw (key_number i.number u.first, key_number j.number u.second)
      (whole_differs j.number i.number (λ e. u.other (sym e))),
)

is_fine : (depth : ℕ) (i : WrittenItem) → IsSmall i → IsFineAt digest_entry depth i
is_fine depth i lt = (
  fine_whole_written depth (pos i.number) lt,
  fine_bytes_written depth (digest_of i) (digest_short i.bytes),
)

is_digest_entry : (i : WrittenItem) → IsSmall i → is_digest (digest_entry i) ≡ true
is_digest_entry i lt =
    rw ((reads_whole (pos i.number) lt).1, (reads_bytes (digest_of i) (digest_short i.bytes)).1) refl

-- The map is one item of the form, in which each item has its digest under its number.
pub record AreDigests (depth : ℕ) (items : List WrittenItem) (span : Span) : Type 0 where
  pub fine : IsFine (suc depth) span
  pub of_form : is_digest_map span ≡ true
  pub found : AllByRecursion
      (λ i. digest_in i.number (entries_of span) ≡ Some (digest_by Sha256 i.bytes)) items

form_at : (span : Span) (entries : List Pair) → is_map (kind_of span) ≡ true → entries_of span ≡ entries
    → Rattle.std.specs.List.list_all is_digest entries ≡ true → is_digest_map span ≡ true
form_at span entries a b c = rw (a, b, c) refl

pub digests_read : (depth n : ℕ) (ms : Fields) → depth < MAX_DEPTH → n + member_count ms < 2 ^ 64
    → AreDigests depth (items_from n ms) (sorted_map_bytes (map digest_entry (items_from n ms)))
digests_read depth n ms less small =
    let items = items_from n ms in
    let span = sorted_map_bytes (map digest_entry items) in
    let smalls = all_small n ms small in
    let unlike = all_unlike n ms small in
    let read : IsRead digest_entry depth items =
    map_read digest_entry depth items less (omega (arith, items_count n ms, small))
    (all_weaker IsSmall (IsFineAt digest_entry depth) (is_fine depth) items smalls)
    (related_weaker Unlike (KeysApart digest_entry) keys_apart items unlike) in
    let zs = sorted digest_entry items in
    let same = λ (i : WrittenItem) (f : IsFound digest_entry here digest_of (map digest_entry zs) i).
    ap (digest_in i.number) read.entries ∙ digest_in_is i (map digest_entry zs) ∙ f in
    record {
      fine = read.fine;
      of_form = form_at span (map digest_entry zs) read.of_map read.entries
          (list_all_mapped digest_entry is_digest zs
          (all_weaker IsSmall (λ i. is_digest (digest_entry i) ≡ true) is_digest_entry zs
          (all_sorted digest_entry IsSmall items smalls)));
      found = all_weaker (IsFound digest_entry here digest_of (map digest_entry zs))
          (λ i. digest_in i.number (entries_of span) ≡ Some (digest_by Sha256 i.bytes)) same items
          (found_sorted items smalls unlike);
    }
