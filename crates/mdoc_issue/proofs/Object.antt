-- The mobile security object is read back.
use Rattle.std.proofs.Common.{rules, codes, ◌≡◌, ℕ, ◌<◌, ◌^◌, true, false, List, [], ◌∷◌}
use Rattle.std.proofs.Common.{length, Option, Some, option_and_then, refl, ap, ◌∙◌, arith}
use Rattle.std.specs.List.{AllByRecursion}
use Rattle.std.specs.Str.{is_utf8, bytes_eq}
use Rattle.std.proofs.lemmas.Str.{is_utf8-from_IsUtf8}
use Rattle.base_forms.specs.Texts.{Utf8}
use Rattle.base_forms.specs.declared.hash.HashName.TheVariants.{Sha256}
use Rattle.cbor_core.specs.Keys.{keys_differ, keys_in}
use Rattle.cbor_core.specs.Order.{Pair}
use Rattle.cbor_core.specs.Views.{Span, find_in, entries_of, utf8_text_of}
use Rattle.cbor_core.specs.Writing.{text_bytes, pairs_bytes}
use Rattle.cbor_core.proofs.Fine.{IsFine, unbroken, fine_from}
use Rattle.cbor_core.proofs.FineWritten.{AreFinePairs, fine_text_written, fine_map_written}
use Rattle.cbor_core.proofs.Valid.{valid_deeper}
use Rattle.mdoc_items.specs.MapFields.{Entries, text_at, map_at, map_of, one_map}
use Rattle.mdoc_security.specs.MobileSecurityObject.{MobileSecurityObject, security_object_by, sole_embedded}
use Rattle.mdoc_security.specs.MobileSecurityObject.{security_object_in, digests_at, first_in, last_in}
use Rattle.mdoc_security.specs.MobileSecurityObject.{moment_at}
use Rattle.mdoc_security.specs.MobileSecurityObject.{has_version}
use Rattle.mdoc_security.specs.ValueDigests.{are_digests, digests_of}
use Rattle.mdoc_view.specs.Relation.{IsSound}
use Rattle.mdoc_dates.specs.Laws.{year_10000}
use Rattle.mdoc_object.specs.Namespaces.{WrittenNamespace}
use Rattle.mdoc_object.specs.SecurityObject.{tdate_bytes, validity_entries, validity_bytes}
use Rattle.mdoc_object.specs.SecurityObject.{device_key_entries}
use Rattle.mdoc_object.specs.SecurityObject.{ObjectParts, object_entries, payload_bytes}
use Rattle.mdoc_object.specs.ValueDigests.{value_digests_bytes}
use Rattle.mdoc_written.specs.Containers.{map_bytes, named}
use Rattle.mdoc_written.specs.Laws.{IsText}
use Rattle.mdoc_written.proofs.Items.{embedded_back, embedded_fine, embedded_shorter, named_fine}
use Rattle.mdoc_written.proofs.Lengths.{behind_head, pair_length}
use Rattle.mdoc_written.proofs.Texts.{utf8_written, key_is, find_first, find_later, entries_back, map_back}
use Rattle.mdoc_written.proofs.Values.{text_shorter}
use Rattle.mdoc_issue.specs.Spec.{IsHolderKey}
use Rattle.mdoc_issue.proofs.Dates.{tdate_fine, moment_is}

-- ---- names

fine_name : (name : Utf8) → Rattle.std.specs.Str.IsUtf8 name → is_utf8 name ≡ true
fine_name name is = is_utf8-from_IsUtf8 name is

docType_fine : is_utf8 (codes "docType") ≡ true
docType_fine = fine_name (codes "docType") (search rules)

version_fine : is_utf8 (codes "version") ≡ true
version_fine = fine_name (codes "version") (search rules)

number_fine : is_utf8 (codes "1.0") ≡ true
number_fine = fine_name (codes "1.0") (search rules)

validityInfo_fine : is_utf8 (codes "validityInfo") ≡ true
validityInfo_fine = fine_name (codes "validityInfo") (search rules)

valueDigests_fine : is_utf8 (codes "valueDigests") ≡ true
valueDigests_fine = fine_name (codes "valueDigests") (search rules)

deviceKeyInfo_fine : is_utf8 (codes "deviceKeyInfo") ≡ true
deviceKeyInfo_fine = fine_name (codes "deviceKeyInfo") (search rules)

deviceKey_fine : is_utf8 (codes "deviceKey") ≡ true
deviceKey_fine = fine_name (codes "deviceKey") (search rules)

digestAlgorithm_fine : is_utf8 (codes "digestAlgorithm") ≡ true
digestAlgorithm_fine = fine_name (codes "digestAlgorithm") (search rules)

hash_fine : is_utf8 (codes "SHA-256") ≡ true
hash_fine = fine_name (codes "SHA-256") (search rules)

signed_fine : is_utf8 (codes "signed") ≡ true
signed_fine = fine_name (codes "signed") (search rules)

validFrom_fine : is_utf8 (codes "validFrom") ≡ true
validFrom_fine = fine_name (codes "validFrom") (search rules)

validUntil_fine : is_utf8 (codes "validUntil") ≡ true
validUntil_fine = fine_name (codes "validUntil") (search rules)

-- ---- `validityInfo`

module _ (from until : ℕ) where
  validity_pairs : AreFinePairs 30 (validity_entries from until)
  validity_pairs = (
    named_fine 30 (codes "signed") (omega arith) signed_fine (tdate_bytes from)
        (tdate_fine 29 from (omega arith)),
    (
      named_fine 30 (codes "validFrom") (omega arith) validFrom_fine (tdate_bytes from)
          (tdate_fine 29 from (omega arith)),
      (
        named_fine 30 (codes "validUntil") (omega arith) validUntil_fine (tdate_bytes until)
            (tdate_fine 29 until (omega arith)),
        tt,
      ),
    ),
  )

  validity_keys : keys_differ (keys_in (validity_entries from until)) ≡ true
  validity_keys =
      rw (
        key_is (codes "signed") (omega arith),
        key_is (codes "validFrom") (omega arith),
        key_is (codes "validUntil") (omega arith),
      ) refl

  pub validity_fine : IsFine 31 (validity_bytes from until)
  validity_fine = fine_map_written 30 (validity_entries from until) (omega arith)
      (omega arith) validity_pairs validity_keys

  pub validity_back : map_of (validity_bytes from until) ≡ Some (validity_entries from until)
  validity_back = map_back 30 (validity_entries from until) (omega arith) (omega arith) validity_pairs

  abbrev last_pair : List Pair
  last_pair = named (codes "validUntil") (tdate_bytes until) ∷ []

  abbrev last_pairs : List Pair
  last_pairs = named (codes "validFrom") (tdate_bytes from) ∷ last_pair

  from_found : find_in (codes "validFrom") (validity_entries from until) ≡ Some (tdate_bytes from)
  from_found =
      find_later (codes "validFrom") (codes "signed") (tdate_bytes from) last_pairs (omega arith) refl
      ∙ find_first (codes "validFrom") (tdate_bytes from) last_pair (omega arith) refl

  until_found : find_in (codes "validUntil") (validity_entries from until) ≡ Some (tdate_bytes until)
  until_found =
      find_later (codes "validUntil") (codes "signed") (tdate_bytes from) last_pairs (omega arith) refl
      ∙ find_later (codes "validUntil") (codes "validFrom") (tdate_bytes from) last_pair (omega arith) refl
      ∙ find_first (codes "validUntil") (tdate_bytes until) [] (omega arith) refl

  pub from_is : from < year_10000 → moment_at (codes "validFrom") (validity_entries from until) ≡ Some from
  from_is lt =
      ap (option_and_then Rattle.mdoc_security.specs.MobileSecurityObject.moment_of) from_found
      ∙ moment_is from lt

  pub until_is : until < year_10000 → moment_at (codes "validUntil") (validity_entries from until)
      ≡ Some until
  until_is lt =
      ap (option_and_then Rattle.mdoc_security.specs.MobileSecurityObject.moment_of) until_found
      ∙ moment_is until lt

-- ---- `deviceKeyInfo`

module _ (key : Span) (is : IsHolderKey key) where
  key_fine : IsFine 30 key
  key_fine = fine_from 30 key (valid_deeper 1 30 key (omega arith) (omega arith) is.is_item)

  key_pairs : AreFinePairs 30 (device_key_entries key)
  key_pairs = (named_fine 30 (codes "deviceKey") (omega arith) deviceKey_fine key key_fine, tt)

  pub key_info_fine : IsFine 31 (map_bytes (device_key_entries key))
  key_info_fine = fine_map_written 30 (device_key_entries key) (omega arith) (omega arith) key_pairs
      refl

  pub key_back : find_in (codes "deviceKey") (entries_of (map_bytes (device_key_entries key))) ≡ Some key
  key_back =
      ap (find_in (codes "deviceKey")) (entries_back 30 (device_key_entries key) (omega arith)
      (omega arith) key_pairs)
      ∙ find_first (codes "deviceKey") key [] (omega arith) refl

-- ---- the object

module _ (o : ObjectParts) (ns : List WrittenNamespace) (digests : Entries) (is_text : IsText o.kind)
    (key : IsHolderKey o.key) (from_has : o.from < year_10000) (until_has : o.until < year_10000)
    (digests_fine : IsFine 31 (value_digests_bytes ns))
    (digests_form : are_digests (value_digests_bytes ns) ≡ true)
    (digests_are : entries_of (value_digests_bytes ns) ≡ digests)
    (short : length (payload_bytes o ns) < 2 ^ 64) where
  abbrev entries : List Pair
  entries = object_entries o ns

  abbrev object : Span
  object = map_bytes entries

  object_short : length object < 2 ^ 64
  object_short = omega (arith, embedded_shorter object, short)

  abbrev behind_key : List Pair
  behind_key = named (codes "digestAlgorithm") (text_bytes (codes "SHA-256")) ∷ []

  abbrev behind_digests : List Pair
  behind_digests = named (codes "deviceKeyInfo") (map_bytes (device_key_entries o.key)) ∷ behind_key

  abbrev behind_validity : List Pair
  behind_validity = named (codes "valueDigests") (value_digests_bytes ns) ∷ behind_digests

  abbrev behind_version : List Pair
  behind_version = named (codes "validityInfo") (validity_bytes o.from o.until) ∷ behind_validity

  abbrev behind_kind : List Pair
  behind_kind = named (codes "version") (text_bytes (codes "1.0")) ∷ behind_version

  kind_short : length o.kind < 2 ^ 64
  kind_short =
      omega (
        arith,
        object_short,
        behind_head 5 6 (pairs_bytes entries),
        pair_length (named (codes "docType") (text_bytes o.kind)) behind_kind,
        text_shorter o.kind,
      )

  pairs_fine : AreFinePairs 31 entries
  pairs_fine = (
    named_fine 31 (codes "docType") (omega arith) docType_fine (text_bytes o.kind)
        (fine_text_written 31 o.kind kind_short is_text),
    (
      named_fine 31 (codes "version") (omega arith) version_fine (text_bytes (codes "1.0"))
          (fine_text_written 31 (codes "1.0") (omega arith) number_fine),
      (
        named_fine 31 (codes "validityInfo") (omega arith) validityInfo_fine (validity_bytes o.from o.until)
            (validity_fine o.from o.until),
        (
          named_fine 31 (codes "valueDigests") (omega arith) valueDigests_fine
              (value_digests_bytes ns) digests_fine,
          (
            named_fine 31 (codes "deviceKeyInfo") (omega arith) deviceKeyInfo_fine
                (map_bytes (device_key_entries o.key))
                (key_info_fine o.key key),
            (
              named_fine 31 (codes "digestAlgorithm") (omega arith) digestAlgorithm_fine
                  (text_bytes (codes "SHA-256"))
                  (fine_text_written 31 (codes "SHA-256") (omega arith) hash_fine),
              tt,
            ),
          ),
        ),
      ),
    ),
  )

  keys : keys_differ (keys_in entries) ≡ true
  keys =
      rw (
        key_is (codes "docType") (omega arith),
        key_is (codes "version") (omega arith),
        key_is (codes "validityInfo") (omega arith),
        key_is (codes "valueDigests") (omega arith),
        key_is (codes "deviceKeyInfo") (omega arith),
        key_is (codes "digestAlgorithm") (omega arith),
      ) refl

  object_fine : IsFine 32 object
  object_fine = fine_map_written 31 entries (omega arith) (omega arith) pairs_fine keys

  past_kind : (wanted : Utf8) → bytes_eq (codes "docType") wanted ≡ false
      → find_in wanted entries ≡ find_in wanted behind_kind
  past_kind wanted other = find_later wanted (codes "docType") (text_bytes o.kind) behind_kind
      (omega arith) other

  kind_at : text_at (codes "docType") entries ≡ Some o.kind
  kind_at =
      ap (option_and_then utf8_text_of)
      (find_first (codes "docType") (text_bytes o.kind) behind_kind (omega arith) refl)
      ∙ utf8_written o.kind kind_short is_text

  version_at : text_at (codes "version") entries ≡ Some (codes "1.0")
  version_at =
      ap (option_and_then utf8_text_of)
      (past_kind (codes "version") refl
      ∙ find_first (codes "version") (text_bytes (codes "1.0")) behind_version (omega arith) refl)
      ∙ utf8_written (codes "1.0") (omega arith) number_fine

  validity_found : find_in (codes "validityInfo") entries ≡ Some (validity_bytes o.from o.until)
  validity_found =
      past_kind (codes "validityInfo") refl
      ∙ find_later (codes "validityInfo") (codes "version") (text_bytes (codes "1.0")) behind_version
      (omega arith) refl
      ∙ find_first (codes "validityInfo") (validity_bytes o.from o.until) behind_validity (omega arith) refl

  validity_at : map_at (codes "validityInfo") entries ≡ Some (validity_entries o.from o.until)
  validity_at = ap (option_and_then map_of) validity_found ∙ validity_back o.from o.until

  digests_found : find_in (codes "valueDigests") entries ≡ Some (value_digests_bytes ns)
  digests_found =
      past_kind (codes "valueDigests") refl
      ∙ find_later (codes "valueDigests") (codes "version") (text_bytes (codes "1.0")) behind_version
      (omega arith) refl
      ∙ find_later (codes "valueDigests") (codes "validityInfo")
      (validity_bytes o.from o.until) behind_validity (omega arith) refl
      ∙ find_first (codes "valueDigests") (value_digests_bytes ns) behind_digests (omega arith) refl

  digests_at_are : digests_at entries ≡ Some digests
  digests_at_are = ap (option_and_then digests_of) digests_found ∙ rw (digests_form, digests_are) refl

  key_found : find_in (codes "deviceKeyInfo") entries ≡ Some (map_bytes (device_key_entries o.key))
  key_found =
      past_kind (codes "deviceKeyInfo") refl
      ∙ find_later (codes "deviceKeyInfo") (codes "version") (text_bytes (codes "1.0")) behind_version
      (omega arith) refl
      ∙ find_later (codes "deviceKeyInfo") (codes "validityInfo")
      (validity_bytes o.from o.until) behind_validity (omega arith) refl
      ∙ find_later (codes "deviceKeyInfo") (codes "valueDigests") (value_digests_bytes ns) behind_digests
      (omega arith) refl
      ∙ find_first (codes "deviceKeyInfo") (map_bytes (device_key_entries o.key)) behind_key
      (omega arith) refl

  algorithm_at : text_at (codes "digestAlgorithm") entries ≡ Some (codes "SHA-256")
  algorithm_at =
      ap (option_and_then utf8_text_of)
      (past_kind (codes "digestAlgorithm") refl
      ∙ find_later (codes "digestAlgorithm") (codes "version") (text_bytes (codes "1.0")) behind_version
      (omega arith) refl
      ∙ find_later (codes "digestAlgorithm") (codes "validityInfo")
      (validity_bytes o.from o.until) behind_validity (omega arith) refl
      ∙ find_later (codes "digestAlgorithm") (codes "valueDigests") (value_digests_bytes ns) behind_digests
      (omega arith) refl
      ∙ find_later (codes "digestAlgorithm") (codes "deviceKeyInfo")
      (map_bytes (device_key_entries o.key)) behind_key
      (omega arith) refl
      ∙ find_first (codes "digestAlgorithm") (text_bytes (codes "SHA-256")) [] (omega arith) refl)
      ∙ utf8_written (codes "SHA-256") (omega arith) hash_fine

  abbrev pub said : MobileSecurityObject
  said = record {
    entries = entries;
    algorithm = codes "SHA-256";
    kind = o.kind;
    digests = digests;
    validity = validity_entries o.from o.until;
  }

  object_is : one_map object ≡ Some entries
  object_is = rw (unbroken 32 object object_fine) (map_back 31 entries (omega arith) (omega arith) pairs_fine)

  payload_is : sole_embedded (payload_bytes o ns) ≡ Some object
  payload_is =
      rw (unbroken 32 (payload_bytes o ns) (embedded_fine 31 (omega arith) object object_short))
      (embedded_back object object_short)

  by_entries : security_object_by entries ≡ Some said
  by_entries = rw (algorithm_at, kind_at, digests_at_are, validity_at) refl

  pub is_object : security_object_in (Some (payload_bytes o ns)) ≡ Some said
  is_object =
      ap (λ (b : Option (List ℕ)). option_and_then security_object_by (option_and_then one_map b)) payload_is
      ∙ ap (option_and_then security_object_by) object_is ∙ by_entries

  pub is_sound : IsSound said Sha256 o.from o.until o.key
  is_sound = record {
    of_version = rw version_at refl;
    names_hash = refl;
    is_from = from_is o.from o.until from_has;
    is_until = until_is o.from o.until until_has;
    has_key =
        ap (option_and_then (λ (info : Span). find_in (codes "deviceKey") (entries_of info))) key_found
        ∙ key_back o.key key;
    of_form = key.of_form;
  }
