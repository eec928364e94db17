-- Maps that are brought into the order of their keys, of which no two are the same.
use Rattle.std.proofs.Common.{◌≡◌, ℕ, suc, ◌<◌, ◌^◌, Bool, true, false, not, List, [], ◌∷◌, length, map, refl}
use Rattle.std.proofs.Common.{sym}
use Rattle.std.proofs.Common.{ap, ◌∙◌, subst}
use Rattle.std.specs.List.{AllByRecursion, list_any, list_all}
use Rattle.std.proofs.lemmas.Bool.{and_from}
use Rattle.std.proofs.lemmas.List.{length-map}
use Rattle.cbor_validity.specs.declared.head.TheConstants.{MAX_DEPTH}
use Rattle.cbor_core.specs.Keys.{key_of, same_key, keys_differ, keys_in}
use Rattle.cbor_core.specs.Order.{Pair}
use Rattle.cbor_core.specs.Views.{is_map, kind_of, entries_of}
use Rattle.cbor_core.proofs.Fine.{IsFine}
use Rattle.cbor_core.proofs.FineWritten.{AreFinePairs, fine_map_written}
use Rattle.mdoc_written.specs.Containers.{map_bytes, sorted_map_bytes, AllRelated}
use Rattle.mdoc_written.proofs.Sorting.{by_key_length}
use Rattle.mdoc_written.proofs.Texts.{map_is, entries_back}
use Rattle.mdoc_issue.proofs.Placing.{sorted, sorted_pairs, all_sorted, related_sorted}

pub all_mapped : {W X : Type 0} (f : W → X) (P : X → Type 0) (ws : List W)
    → AllByRecursion (λ w. P (f w)) ws → AllByRecursion P (map f ws)
all_mapped f P [] all = tt
all_mapped f P (w ∷ ws) all = (all.0, all_mapped f P ws all.1)

pub list_all_mapped : {W X : Type 0} (f : W → X) (p : X → Bool) (ws : List W)
    → AllByRecursion (λ w. p (f w) ≡ true) ws → list_all p (map f ws) ≡ true
list_all_mapped f p [] all = refl
list_all_mapped f p (w ∷ ws) all = and_from (p (f w)) (list_all p (map f ws)) all.0
    (list_all_mapped f p ws all.1)

module _ {W : Type 0} (R S : W → W → Type 0) (weaker : (w v : W) → R w v → S w v) where
  each_weaker : (w : W) (vs : List W) → AllByRecursion (R w) vs → AllByRecursion (S w) vs
  each_weaker w [] here = tt
  each_weaker w (v ∷ vs) here = (weaker w v here.0, each_weaker w vs here.1)

  pub related_weaker : (ws : List W) → AllRelated R ws → AllRelated S ws
  related_weaker [] all = tt
  related_weaker (w ∷ ws) all = (each_weaker w ws all.0, related_weaker ws all.1)

module _ {W : Type 0} (f : W → Pair) where
  -- the keys are not the same
  abbrev pub KeysApart : W → W → Type 0
  KeysApart w v =
      (same_key (key_of (f w).0) (key_of (f v).0) ≡ false) ×
      (same_key (key_of (f v).0) (key_of (f w).0) ≡ false)

  flip : (w v : W) → KeysApart w v → KeysApart v w
  flip w v both = (both.1, both.0)

  none_same : (w : W) (ws : List W) → AllByRecursion (KeysApart w) ws
      → list_any (same_key (key_of (f w).0)) (keys_in (map f ws)) ≡ false
  none_same w [] all = refl
  none_same w (v ∷ vs) all = rw (all.0.0, none_same w vs all.1) refl

  keys_apart : (ws : List W) → AllRelated KeysApart ws → keys_differ (keys_in (map f ws)) ≡ true
  keys_apart [] all = refl
  keys_apart (w ∷ ws) all =
      and_from (not (list_any (same_key (key_of (f w).0)) (keys_in (map f ws))))
      (keys_differ (keys_in (map f ws)))
      (ap not (none_same w ws all.0)) (keys_apart ws all.1)

  abbrev pub IsFineAt : ℕ → W → Type 0
  IsFineAt depth w = IsFine depth (f w).0 × IsFine depth (f w).1

  -- the map is one item, and its entries are those that were sorted
  pub record IsRead (depth : ℕ) (ws : List W) : Type 0 where
    pub fine : IsFine (suc depth) (sorted_map_bytes (map f ws))
    pub of_map : is_map (kind_of (sorted_map_bytes (map f ws))) ≡ true
    pub entries : entries_of (sorted_map_bytes (map f ws)) ≡ map f (sorted f ws)

  pub map_read : (depth : ℕ) (ws : List W) → depth < MAX_DEPTH → length ws < 2 ^ 64
      → AllByRecursion (IsFineAt depth) ws → AllRelated KeysApart ws → IsRead depth ws
  map_read depth ws less few fine apart =
      let zs = sorted f ws in
      let short : length (map f zs) < 2 ^ 64 =
      rw (sorted_pairs f ws, by_key_length (map f ws), length-map ws f) few in
      let pairs : AreFinePairs depth (map f zs) =
      all_mapped f (λ p. IsFine depth p.0 × IsFine depth p.1) zs (all_sorted f (IsFineAt depth) ws fine) in
      let keys : keys_differ (keys_in (map f zs)) ≡ true =
      keys_apart zs (related_sorted f KeysApart flip ws apart) in
      let is : map_bytes (map f zs) ≡ sorted_map_bytes (map f ws) = ap map_bytes (sorted_pairs f ws) in
      record {
        fine = subst (IsFine (suc depth)) is (fine_map_written depth (map f zs) less short pairs keys);
        of_map = subst (λ (b : List ℕ). is_map (kind_of b) ≡ true) is (map_is (map f zs) short);
        entries = ap entries_of (sym is) ∙ entries_back depth (map f zs) less short pairs;
      }
