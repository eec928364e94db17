-- Issuer-signed items are read back.
use Rattle.std.proofs.Common.{rules, codes, ◌≡◌, ℕ, suc, ◌+◌, ◌<◌, ◌≤◌, ◌^◌, true, List, [], ◌∷◌, ◌++◌}
use Rattle.std.proofs.Common.{length, pos, Some, None}
use Rattle.std.proofs.Common.{option_and_then, refl, ap, ◌∙◌, arith, sym}
use Rattle.std.specs.Int.{w128, to_be_bytes}
use Rattle.std.specs.Str.{is_utf8, bytes_eq}
use Rattle.std.proofs.lemmas.List.{length-append}
use Rattle.std.proofs.lemmas.Str.{is_utf8-from_IsUtf8}
use Rattle.serde_json.specs.Data.{Data}
use Rattle.cbor_validity.specs.declared.head.TheConstants.{MAX_DEPTH}
use Rattle.cbor_core.specs.Keys.{keys_differ, keys_in}
use Rattle.cbor_core.specs.Order.{Pair}
use Rattle.cbor_core.specs.Views.{Span, utf8_text_of, find_in}
use Rattle.cbor_core.specs.Writing.{head_bytes, whole_bytes, text_bytes, byte_string_bytes, pairs_bytes}
use Rattle.cbor_core.proofs.Fine.{IsFine, unbroken}
use Rattle.cbor_core.proofs.FineWritten.{AreFinePairs, fine_whole_written, fine_text_written}
use Rattle.cbor_core.proofs.FineWritten.{fine_bytes_written}
use Rattle.cbor_core.proofs.FineWritten.{fine_tag_written, fine_map_written}
use Rattle.cbor_core.proofs.Written.{reads_bytes, reads_tag, reads_whole}
use Rattle.mdoc_items.specs.MapFields.{Entries, natural, natural_at, text_at, bytes_at, one_map, embedded}
use Rattle.mdoc_items.specs.MapFields.{embedded_under}
use Rattle.mdoc_items.specs.IssuerSignedItems.{item_in}
use Rattle.mdoc_written.specs.Containers.{map_bytes, named, embedded_bytes}
use Rattle.mdoc_written.specs.Element.{element_bytes}
use Rattle.mdoc_written.specs.Item.{random_bytes, item_entries, item_bytes}
use Rattle.mdoc_written.specs.Laws.{IsText, IsElement, ItemsRead}
use Rattle.mdoc_written.proofs.Lengths.{behind_head, pair_length}
use Rattle.mdoc_written.proofs.Texts.{utf8_written, key_is, find_first, find_later, map_back}
use Rattle.mdoc_written.proofs.Values.{element_fine, text_shorter}

-- ---- embedded items

pub embedded_shorter : (item : Span) → length item ≤ length (embedded_bytes item)
embedded_shorter item =
    omega (
      arith,
      behind_head 6 24 (byte_string_bytes item),
      behind_head 2 (length item) item,
    )

pub embedded_back : (item : Span) → length item < 2 ^ 64 → embedded (embedded_bytes item) ≡ Some item
embedded_back item lt =
    ap (option_and_then embedded_under)
    (reads_tag 0 24 (byte_string_bytes item) (omega arith) (reads_bytes item lt).0).1
    ∙ (reads_bytes item lt).1

pub embedded_fine : (depth : ℕ) → depth < MAX_DEPTH → (item : Span) → length item < 2 ^ 64
    → IsFine (suc depth) (embedded_bytes item)
embedded_fine depth less item lt =
    fine_tag_written depth (omega arith) 24 (byte_string_bytes item) (omega arith)
    (fine_bytes_written depth item lt)

-- ---- names

pub random_fine : is_utf8 (codes "random") ≡ true
random_fine = is_utf8-from_IsUtf8 (codes "random") (search rules)

digestID_fine : is_utf8 (codes "digestID") ≡ true
digestID_fine = is_utf8-from_IsUtf8 (codes "digestID") (search rules)

elementValue_fine : is_utf8 (codes "elementValue") ≡ true
elementValue_fine = is_utf8-from_IsUtf8 (codes "elementValue") (search rules)

elementIdentifier_fine : is_utf8 (codes "elementIdentifier") ≡ true
elementIdentifier_fine = is_utf8-from_IsUtf8 (codes "elementIdentifier") (search rules)

random_short : (number : ℕ) → length (random_bytes number) < 2 ^ 64
random_short number = omega arith

-- ---- one item

pub named_fine : (depth : ℕ) (name : List ℕ) → length name < 2 ^ 64 → is_utf8 name ≡ true → (value : Span)
    → IsFine depth value → IsFine depth (text_bytes name) × IsFine depth value
named_fine depth name lt u value f = (fine_text_written depth name lt u, f)

module _ (number : ℕ) (name : List ℕ) (d : Data) (small : number < 2 ^ 64) (is : IsText name)
    (good : IsElement d 31)
    (short : length (item_bytes number name d) < 2 ^ 64) where
  abbrev item_map : Span
  item_map = map_bytes (item_entries number name d)

  pub map_short : length item_map < 2 ^ 64
  map_short = omega (arith, embedded_shorter item_map, short)

  abbrev last_pairs : List Pair
  last_pairs = named (codes "elementIdentifier") (text_bytes name) ∷ []

  abbrev value_pairs : List Pair
  value_pairs = named (codes "elementValue") (element_bytes d) ∷ last_pairs

  abbrev number_pairs : List Pair
  number_pairs = named (codes "digestID") (whole_bytes (pos number)) ∷ value_pairs

  pairs_short : length (pairs_bytes value_pairs) < 2 ^ 64
  pairs_short =
      omega (
        arith,
        map_short,
        behind_head 5 4 (pairs_bytes (item_entries number name d)),
        pair_length (named (codes "random") (byte_string_bytes (random_bytes number))) number_pairs,
        pair_length (named (codes "digestID") (whole_bytes (pos number))) value_pairs,
      )

  value_short : length (element_bytes d) < 2 ^ 64
  value_short = omega (
    arith,
    pairs_short,
    pair_length
        (named (codes "elementValue") (element_bytes d)) last_pairs,
  )

  name_short : length name < 2 ^ 64
  name_short =
      omega (
        arith,
        pairs_short,
        pair_length (named (codes "elementValue") (element_bytes d)) last_pairs,
        pair_length (named (codes "elementIdentifier") (text_bytes name)) [],
        text_shorter name,
      )

  item_pairs : AreFinePairs 31 (item_entries number name d)
  item_pairs = (
    named_fine 31 (codes "random") (omega arith) random_fine (byte_string_bytes (random_bytes number))
        (fine_bytes_written 31 (random_bytes number) (random_short number)),
    (
      named_fine 31 (codes "digestID") (omega arith) digestID_fine (whole_bytes (pos number))
          (fine_whole_written 31 (pos number) small),
      (
        named_fine 31 (codes "elementValue") (omega arith) elementValue_fine (element_bytes d)
            (element_fine d 31 (omega arith) value_short good),
        (
          named_fine 31 (codes "elementIdentifier") (omega arith) elementIdentifier_fine (text_bytes name)
              (fine_text_written 31 name name_short is),
          tt,
        ),
      ),
    ),
  )

  item_keys : keys_differ (keys_in (item_entries number name d)) ≡ true
  item_keys =
      rw (
        key_is (codes "random") (omega arith),
        key_is (codes "digestID") (omega arith),
        key_is (codes "elementValue") (omega arith),
        key_is (codes "elementIdentifier") (omega arith),
      ) refl

  item_fine : IsFine 32 item_map
  item_fine = fine_map_written 31 (item_entries number name d) (omega arith)
      (omega arith) item_pairs item_keys

  pub item_is_map : one_map item_map ≡ Some (item_entries number name d)
  item_is_map =
      rw (unbroken 32 item_map item_fine)
      (map_back 31 (item_entries number name d) (omega arith) (omega arith) item_pairs)

  pub item_embedded : embedded (item_bytes number name d) ≡ Some item_map
  item_embedded = embedded_back item_map map_short

  pub has_random : bytes_at (codes "random") (item_entries number name d) ≡ Some (random_bytes number)
  has_random =
      rw (find_first (codes "random") (byte_string_bytes (random_bytes number)) number_pairs
      (omega arith) refl)
      (reads_bytes (random_bytes number) (random_short number)).1

  pub has_number : natural_at (codes "digestID") (item_entries number name d) ≡ Some number
  has_number =
      rw (
        find_later (codes "digestID") (codes "random") (byte_string_bytes (random_bytes number)) number_pairs
            (omega arith) refl
            ∙ find_first (codes "digestID") (whole_bytes (pos number)) value_pairs (omega arith) refl,
        (reads_whole (pos number) small).1,
      ) refl

  pub has_value : find_in (codes "elementValue") (item_entries number name d) ≡ Some (element_bytes d)
  has_value =
      find_later (codes "elementValue") (codes "random")
      (byte_string_bytes (random_bytes number)) number_pairs (omega arith) refl
      ∙ find_later (codes "elementValue") (codes "digestID") (whole_bytes (pos number)) value_pairs
      (omega arith) refl
      ∙ find_first (codes "elementValue") (element_bytes d) last_pairs (omega arith) refl

  pub has_name : text_at (codes "elementIdentifier") (item_entries number name d) ≡ Some name
  has_name =
      ap (option_and_then utf8_text_of)
      (find_later (codes "elementIdentifier") (codes "random")
      (byte_string_bytes (random_bytes number)) number_pairs (omega arith) refl
      ∙ find_later (codes "elementIdentifier") (codes "digestID") (whole_bytes (pos number)) value_pairs
      (omega arith) refl
      ∙ find_later (codes "elementIdentifier") (codes "elementValue") (element_bytes d) last_pairs
      (omega arith) refl
      ∙ find_first (codes "elementIdentifier") (text_bytes name) [] (omega arith) refl)
      ∙ utf8_written name name_short is

pub items_read : ItemsRead
items_read number name d small is good short =
    rw (
      item_embedded number name d small is good short,
      item_is_map number name d small is good short,
      has_number number name d small is good short,
      has_random number name d small is good short,
      has_name number name d small is good short,
      has_value number name d small is good short,
    ) refl
