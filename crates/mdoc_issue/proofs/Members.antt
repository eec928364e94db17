-- The items of a namespace give its members.
use Rattle.std.proofs.Common.{codes, ◌≡◌, ℕ, suc, ◌+◌, ◌<◌, ◌≤◌, ◌^◌, true, List, [], ◌∷◌, length, map, pos}
use Rattle.std.proofs.Common.{Some, nat_cmp, refl, ap, ap₂, arith, subst, sym, is_some, IsPermutation}
use Rattle.std.specs.List.{AllByRecursion, list_all, concat}
use Rattle.std.specs.Ordering.{is_lt}
use Rattle.std.specs.Cmp.Lexicographic.{slice_cmp}
use Rattle.std.proofs.lemmas.Bool.{and_parts, and_from}
use Rattle.std.proofs.lemmas.List.Sorted.{IsPermutation-refl}
use Rattle.serde_json.specs.Data.{Data, Members as Fields, no_members as no_fields, member as field}
use Rattle.base_forms.specs.Hash.{digest_by}
use Rattle.base_forms.specs.declared.hash.HashName.TheVariants.{Sha256}
use Rattle.claim_tree.specs.Tree.{Tree, RecordOf, Members, member, ascend}
use Rattle.claim_tree.specs.Parts.{members_of}
use Rattle.cbor_validity.specs.declared.head.TheConstants.{MAX_DEPTH}
use Rattle.cbor_core.specs.Views.{Span}
use Rattle.cbor_core.specs.Writing.{whole_bytes, byte_string_bytes, pairs_bytes}
use Rattle.cbor_core.proofs.Fine.{IsFine}
use Rattle.mdoc_items.specs.MapFields.{Utf8, Entries, embedded}
use Rattle.mdoc_items.specs.Value.{Valued, rise, marked, value_of}
use Rattle.mdoc_security.specs.ValueDigests.{digest_at}
use Rattle.mdoc_view.specs.Relation.{IsItem, GiveMembers, IsHeldRecord, no_more, item as one_item}
use Rattle.mdoc_object.specs.Namespaces.{WrittenItem, member_count, items_from}
use Rattle.mdoc_written.specs.Containers.{map_bytes, named}
use Rattle.mdoc_written.specs.Element.{element_tree, element_bytes}
use Rattle.mdoc_written.specs.Item.{random_bytes, item_entries, item_bytes}
use Rattle.mdoc_written.specs.Laws.{IsText, IsElement, names_of, AreMembers}
use Rattle.mdoc_written.proofs.Items.{item_embedded, item_is_map, has_random, has_number, has_value, has_name}
use Rattle.mdoc_written.proofs.Items.{map_short, embedded_fine, embedded_shorter}
use Rattle.mdoc_written.proofs.Lengths.{behind_head, pair_length, item_length}
use Rattle.mdoc_written.proofs.Values.{elements_read}
use Rattle.mdoc_issue.specs.Asked.{element_members}

-- ---- one item

is_item : (n : ℕ) (k : Utf8) (d : Data) → n < 2 ^ 64 → IsText k → IsElement d 31
    → length (item_bytes n k d) < 2 ^ 64 → IsItem (item_bytes n k d) n k (element_bytes d)
is_item n k d small is good short = record {
  bytes = map_bytes (item_entries n k d);
  is_embedded = item_embedded n k d small is good short;
  entries = item_entries n k d;
  is_map = item_is_map n k d small is good short;
  has_digest_id = has_number n k d small is good short;
  random = random_bytes n;
  has_random = has_random n k d small is good short;
  has_identifier = has_name n k d small is good short;
  has_value = has_value n k d small is good short;
}

value_short : (n : ℕ) (k : Utf8) (d : Data) → length (item_bytes n k d) < 2 ^ 64
    → length (element_bytes d) < 2 ^ 64
value_short n k d short =
    let last = named (codes "elementIdentifier") (Rattle.cbor_core.specs.Writing.text_bytes k) ∷ [] in
    let value = named (codes "elementValue") (element_bytes d) ∷ last in
    let number = named (codes "digestID") (whole_bytes (pos n)) ∷ value in
    omega (
      arith,
      short,
      embedded_shorter (map_bytes (item_entries n k d)),
      behind_head 5 4 (pairs_bytes (item_entries n k d)),
      pair_length (named (codes "random") (byte_string_bytes (random_bytes n))) number,
      pair_length (named (codes "digestID") (whole_bytes (pos n))) value,
      pair_length (named (codes "elementValue") (element_bytes d)) last,
    )

value_is : (n : ℕ) (k : Utf8) (d : Data) → IsElement d 31 → length (item_bytes n k d) < 2 ^ 64
    → value_of (element_bytes d) ≡ element_tree d
value_is n k d good short = (elements_read 31 d (omega arith) (value_short n k d short) good).1

-- ---- the items of a namespace

abbrev pub spans_from : ℕ → Fields → List Span
spans_from n ms = map (λ i. i.bytes) (items_from n ms)

abbrev pub IsFound : Entries → Utf8 → WrittenItem → Type 0
IsFound digests name i = digest_at name i.number digests ≡ Some (digest_by Sha256 i.bytes)

-- what a reader makes of the elements
abbrev pub read_members : Fields → List Valued
read_members no_fields = []
read_members (field k d ms) = (k, value_of (element_bytes d)) ∷ read_members ms

-- what is meant by them
abbrev pub valued : Fields → List Valued
valued no_fields = []
valued (field k d ms) = (k, element_tree d) ∷ valued ms

module _ (digests : Entries) (name : Utf8) where
  pub members_given : (n : ℕ) (ms : Fields) → AreMembers ms 31 → n + member_count ms ≤ 1_024
      → length (concat (spans_from n ms)) < 2 ^ 64 → AllByRecursion (IsFound digests name) (items_from n ms)
      → GiveMembers Sha256 digests name (spans_from n ms) (read_members ms)
  members_given n no_fields are few short found = no_more
  members_given n (field k d ms) are few short found =
      let parts = item_length (item_bytes n k d) (spans_from (suc n) ms) in
      one_item (is_item n k d (omega (arith, few)) are.0 are.1 (omega (arith, short, parts))) found.0
      (members_given (suc n) ms are.2 (omega (arith, few)) (omega (arith, short, parts)) found.1)

pub members_read : (n : ℕ) (ms : Fields) → AreMembers ms 31 → length (concat (spans_from n ms)) < 2 ^ 64
    → read_members ms ≡ valued ms
members_read n no_fields are short = refl
members_read n (field k d ms) are short =
    let parts = item_length (item_bytes n k d) (spans_from (suc n) ms) in
    ap₂ (λ (t : Tree) (vs : List Valued). (k, t) ∷ vs)
    (value_is n k d are.1 (omega (arith, short, parts)))
    (members_read (suc n) ms are.2 (omega (arith, short, parts)))

-- each is embedded, and a tag over a byte string
pub spans_embedded : (n : ℕ) (ms : Fields) → AreMembers ms 31 → n + member_count ms ≤ 1_024
    → length (concat (spans_from n ms)) < 2 ^ 64
    → list_all (λ i. is_some (embedded i)) (spans_from n ms) ≡ true
spans_embedded n no_fields are few short = refl
spans_embedded n (field k d ms) are few short =
    let parts = item_length (item_bytes n k d) (spans_from (suc n) ms) in
    and_from (is_some (embedded (item_bytes n k d)))
    (list_all (λ i. is_some (embedded i)) (spans_from (suc n) ms))
    (ap is_some (item_embedded n k d (omega (arith, few)) are.0 are.1 (omega (arith, short, parts))))
    (spans_embedded (suc n) ms are.2 (omega (arith, few)) (omega (arith, short, parts)))

pub spans_fine : (depth : ℕ) → depth < MAX_DEPTH → (n : ℕ) (ms : Fields) → AreMembers ms 31
    → n + member_count ms ≤ 1_024 → length (concat (spans_from n ms)) < 2 ^ 64
    → AllByRecursion (IsFine (suc depth)) (spans_from n ms)
spans_fine depth less n no_fields are few short = tt
spans_fine depth less n (field k d ms) are few short =
    let parts = item_length (item_bytes n k d) (spans_from (suc n) ms) in (
      embedded_fine depth less (map_bytes (item_entries n k d))
          (map_short n k d (omega (arith, few)) are.0 are.1 (omega (arith, short, parts))),
      spans_fine depth less (suc n) ms are.2 (omega (arith, few)) (omega (arith, short, parts)),
    )

-- ---- the record of the elements

rise_from : (ms : Fields) → ascend (names_of ms) ≡ true → rise (valued ms) ≡ true
rise_from no_fields up = refl
rise_from (field k d no_fields) up = refl
rise_from (field k d (field l e ms)) up =
    let below = λ (m : List ℕ). is_lt (slice_cmp nat_cmp k m) in
    let both = and_parts (list_all below (l ∷ names_of ms)) (ascend (l ∷ names_of ms)) up in
    let first = and_parts (below l) (list_all below (names_of ms)) both.0 in
    and_from (below l) (rise (valued (field l e ms))) first.0 (rise_from (field l e ms) both.1)

members_are : (ms : Fields) → members_of (marked true (valued ms)) ≡ element_members ms
members_are no_fields = refl
members_are (field k d ms) =
    ap (λ (rest : Members). member k true (element_tree d) rest) (members_are ms)

pub elements_held : (n : ℕ) (ms : Fields) → AreMembers ms 31 → length (concat (spans_from n ms)) < 2 ^ 64
    → ascend (names_of ms) ≡ true → IsHeldRecord (read_members ms) (RecordOf (element_members ms))
elements_held n ms are short up = (
  valued ms,
  subst (λ (vs : List Valued). IsPermutation (read_members ms) vs) (members_read n ms are short)
      (IsPermutation-refl (read_members ms)),
  rise_from ms up,
  ap RecordOf (sym (members_are ms)),
)
