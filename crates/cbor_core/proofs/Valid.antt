-- The laws of valid items, of those that are fine.
use Rattle.std.proofs.Common.{◌≡◌, ℕ, zero, suc, ◌+◌, ◌-◌, ◌≤◌, List, [], ◌∷◌, refl, subst, arith}
use Rattle.std.specs.List.{AllByRecursion}
use Rattle.cbor_validity.specs.declared.head.TheConstants.{MAX_DEPTH}
use Rattle.cbor_core.specs.Views.{items_of, entries_of}
use Rattle.cbor_core.specs.Valid.{IsValid, AreValidPairs, WritesWhole, WritesText, WritesBytes, WritesTruth}
use Rattle.cbor_core.specs.Valid.{WritesNull, WritesTag, WritesList, WritesMap, HasItems, HasEntries}
use Rattle.cbor_core.specs.Valid.{HasTagged, HasKeys, StandsDeeper}
use Rattle.cbor_validity.proofs.Deeper.{all_weaker}
use Rattle.cbor_core.proofs.Fine.{IsFine, unbroken, fine_from, fine_items, fine_entries, fine_tagged}
use Rattle.cbor_core.proofs.Fine.{fine_keys}
use Rattle.cbor_core.proofs.Fine.{one_deeper}
use Rattle.cbor_core.proofs.FineWritten.{AreFinePairs, fine_whole_written, fine_text_written}
use Rattle.cbor_core.proofs.FineWritten.{fine_bytes_written, fine_truth_written, fine_null_written}
use Rattle.cbor_core.proofs.FineWritten.{fine_tag_written, fine_list_written, fine_map_written}

all_fine : (depth : ℕ) (items : List (List ℕ)) → AllByRecursion (IsValid depth) items
    → AllByRecursion (IsFine depth) items
all_fine depth items all = all_weaker (IsValid depth) (IsFine depth) (fine_from depth) items all

pairs_fine : (depth : ℕ) (pairs : List (List ℕ × List ℕ)) → AreValidPairs depth pairs
    → AreFinePairs depth pairs
pairs_fine depth [] all = tt
pairs_fine depth (p ∷ ps) all = (
  (fine_from depth p.0 all.0.0, fine_from depth p.1 all.0.1),
  pairs_fine depth ps all.1,
)

pairs_valid : (depth : ℕ) (pairs : List (List ℕ × List ℕ)) → AreFinePairs depth pairs
    → AreValidPairs depth pairs
pairs_valid depth [] all = tt
pairs_valid depth (p ∷ ps) all = (
  (unbroken depth p.0 all.0.0, unbroken depth p.1 all.0.1),
  pairs_valid depth ps all.1,
)

pub valid_whole : WritesWhole
valid_whole depth z is = unbroken depth _ (fine_whole_written depth z is)

pub valid_text : WritesText
valid_text depth text lt is = unbroken depth _ (fine_text_written depth text lt is)

pub valid_bytes : WritesBytes
valid_bytes depth content lt = unbroken depth _ (fine_bytes_written depth content lt)

pub valid_truth : WritesTruth
valid_truth depth b = unbroken depth _ (fine_truth_written depth b)

pub valid_null : WritesNull
valid_null depth = unbroken depth _ (fine_null_written depth)

pub valid_tag : WritesTag
valid_tag depth n item less lt is = unbroken (suc depth) _
    (fine_tag_written depth (omega arith) n item lt (fine_from depth item is))

pub valid_list : WritesList
valid_list depth items less lt all = unbroken (suc depth) _
    (fine_list_written depth items less lt (all_fine depth items all))

pub valid_map : WritesMap
valid_map depth pairs less lt all keys = unbroken (suc depth) _
    (fine_map_written depth pairs less lt (pairs_fine depth pairs all) keys)

pub valid_items : HasItems
valid_items depth bytes less is =
    all_weaker (IsFine depth) (IsValid depth) (unbroken depth) (items_of bytes)
    (fine_items depth (omega arith) bytes (fine_from (suc depth) bytes is))

pub valid_entries : HasEntries
valid_entries depth bytes less is =
    pairs_valid depth (entries_of bytes)
    (fine_entries depth (omega arith) bytes (fine_from (suc depth) bytes is))

pub valid_tagged : HasTagged
valid_tagged depth n bytes item less is e =
    unbroken depth item (fine_tagged depth (omega arith) bytes n item (fine_from (suc depth) bytes is) e)

pub valid_keys : HasKeys
valid_keys depth bytes is = fine_keys depth bytes (fine_from depth bytes is)

by_levels : (more depth limit : ℕ) (bytes : List ℕ) → limit ≡ more + depth → limit ≤ MAX_DEPTH
    → IsFine depth bytes → IsFine limit bytes
by_levels zero depth limit bytes e le f =
    let same : depth ≡ limit = omega (arith, e) in subst (λ n. IsFine n bytes) same f
by_levels (suc more) depth limit bytes e le f =
    let next : suc (more + depth) ≡ limit = omega (arith, e) in
    subst (λ n. IsFine n bytes) next
    (one_deeper (more + depth) (omega (arith, e)) bytes
    (by_levels more depth (more + depth) bytes refl (omega (arith, e)) f))

pub valid_deeper : StandsDeeper
valid_deeper depth limit bytes le most is =
    unbroken limit bytes
    (by_levels (limit - depth) depth limit bytes (omega arith) most (fine_from depth bytes is))
