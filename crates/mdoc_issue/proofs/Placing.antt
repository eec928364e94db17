-- Sorting what pairs are made of sorts the pairs.
use Rattle.std.proofs.Common.{◌≡◌, List, [], ◌∷◌, map, Ordering, Less, Equal, Greater, nat_cmp, refl, ap, ◌∙◌}
use Rattle.std.proofs.Common.{IsPermutation}
use Rattle.std.specs.List.{AllByRecursion}
use Rattle.std.specs.Ordering.{match_ordering}
use Rattle.std.specs.Cmp.Lexicographic.{slice_cmp}
use Rattle.std.proofs.lemmas.List.Sorted.{IsPermutation-refl, IsPermutation-trans, IsPermutation-append_left}
use Rattle.std.proofs.lemmas.List.Sorted.{IsPermutation-append_right, IsPermutation-append_comm}
use Rattle.cbor_core.specs.Order.{Pair}
use Rattle.mdoc_written.specs.Containers.{put_by_key, by_key, AllRelated}

module _ {W : Type 0} (f : W → Pair) where
  abbrev cmp : W → W → Ordering
  cmp w v = slice_cmp nat_cmp (f w).0 (f v).0

  abbrev pub place : W → List W → List W
  place w [] = w ∷ []
  place w (v ∷ vs) = match_ordering (cmp w v) (w ∷ v ∷ vs) (w ∷ v ∷ vs) (v ∷ place w vs)

  abbrev pub sorted : List W → List W
  sorted [] = []
  sorted (w ∷ ws) = place w (sorted ws)

  -- ---- the pairs are in the order of their keys

  placed_at : (w v : W) (vs : List W) (o : Ordering) → map f (place w vs) ≡ put_by_key (f w) (map f vs)
      → map f (match_ordering o (w ∷ v ∷ vs) (w ∷ v ∷ vs) (v ∷ place w vs))
      ≡ match_ordering o (f w ∷ f v ∷ map f vs) (f w ∷ f v ∷ map f vs) (f v ∷ put_by_key (f w) (map f vs))
  placed_at w v vs Less h = refl
  placed_at w v vs Equal h = refl
  placed_at w v vs Greater h = ap (λ ps. f v ∷ ps) h

  placed : (w : W) (ws : List W) → map f (place w ws) ≡ put_by_key (f w) (map f ws)
  placed w [] = refl
  placed w (v ∷ vs) = placed_at w v vs (cmp w v) (placed w vs)

  pub sorted_pairs : (ws : List W) → map f (sorted ws) ≡ by_key (map f ws)
  sorted_pairs [] = refl
  sorted_pairs (w ∷ ws) = placed w (sorted ws) ∙ ap (put_by_key (f w)) (sorted_pairs ws)

  -- ---- they are the same

  same_at : (w v : W) (vs : List W) (o : Ordering) → IsPermutation (w ∷ vs) (place w vs)
      → IsPermutation (w ∷ v ∷ vs) (match_ordering o (w ∷ v ∷ vs) (w ∷ v ∷ vs) (v ∷ place w vs))
  same_at w v vs Less h = IsPermutation-refl (w ∷ v ∷ vs)
  same_at w v vs Equal h = IsPermutation-refl (w ∷ v ∷ vs)
  same_at w v vs Greater h =
      IsPermutation-trans (w ∷ v ∷ vs) (v ∷ w ∷ vs) (v ∷ place w vs)
      (IsPermutation-append_left vs (w ∷ v ∷ []) (v ∷ w ∷ []) (IsPermutation-append_comm (w ∷ []) (v ∷ [])))
      (IsPermutation-append_right (v ∷ []) (w ∷ vs) (place w vs) h)

  place_same : (w : W) (ws : List W) → IsPermutation (w ∷ ws) (place w ws)
  place_same w [] = IsPermutation-refl (w ∷ [])
  place_same w (v ∷ vs) = same_at w v vs (cmp w v) (place_same w vs)

  pub sorted_same : (ws : List W) → IsPermutation ws (sorted ws)
  sorted_same [] = IsPermutation-refl []
  sorted_same (w ∷ ws) =
      IsPermutation-trans (w ∷ ws) (w ∷ sorted ws) (sorted (w ∷ ws))
      (IsPermutation-append_right (w ∷ []) ws (sorted ws) (sorted_same ws)) (place_same w (sorted ws))

  -- ---- what holds of all holds of all in order, and back

  module _ (P : W → Type 0) where
    all_at : (w v : W) (vs : List W) (o : Ordering) → P w → AllByRecursion P (v ∷ vs)
        → AllByRecursion P (place w vs)
        → AllByRecursion P (match_ordering o (w ∷ v ∷ vs) (w ∷ v ∷ vs) (v ∷ place w vs))
    all_at w v vs Less here all later = (here, all)
    all_at w v vs Equal here all later = (here, all)
    all_at w v vs Greater here all later = (all.0, later)

    all_placed : (w : W) (ws : List W) → P w → AllByRecursion P ws → AllByRecursion P (place w ws)
    all_placed w [] here all = (here, tt)
    all_placed w (v ∷ vs) here all = all_at w v vs (cmp w v) here all (all_placed w vs here all.1)

    pub all_sorted : (ws : List W) → AllByRecursion P ws → AllByRecursion P (sorted ws)
    all_sorted [] all = tt
    all_sorted (w ∷ ws) all = all_placed w (sorted ws) all.0 (all_sorted ws all.1)

    back_at : (w v : W) (vs : List W) (o : Ordering)
        → (AllByRecursion P (place w vs) → P w × AllByRecursion P vs)
        → AllByRecursion P (match_ordering o (w ∷ v ∷ vs) (w ∷ v ∷ vs) (v ∷ place w vs))
        → P w × AllByRecursion P (v ∷ vs)
    back_at w v vs Less rest all = (all.0, all.1)
    back_at w v vs Equal rest all = (all.0, all.1)
    back_at w v vs Greater rest all = let r = rest all.1 in (r.0, (all.0, r.1))

    placed_back : (w : W) (ws : List W) → AllByRecursion P (place w ws) → P w × AllByRecursion P ws
    placed_back w [] all = (all.0, tt)
    placed_back w (v ∷ vs) all = back_at w v vs (cmp w v) (placed_back w vs) all

    pub sorted_back : (ws : List W) → AllByRecursion P (sorted ws) → AllByRecursion P ws
    sorted_back [] all = tt
    sorted_back (w ∷ ws) all =
        let both = placed_back w (sorted ws) all in (both.0, sorted_back ws both.1)

  -- ---- what holds of each two holds of each two in order

  module _ (R : W → W → Type 0) (flip : (w v : W) → R w v → R v w) where
    related_at : (w v : W) (vs : List W) (o : Ordering) → AllByRecursion (R w) (v ∷ vs)
        → AllRelated R (v ∷ vs) → AllRelated R (place w vs)
        → AllRelated R (match_ordering o (w ∷ v ∷ vs) (w ∷ v ∷ vs) (v ∷ place w vs))
    related_at w v vs Less here all later = (here, all)
    related_at w v vs Equal here all later = (here, all)
    related_at w v vs Greater here all later = (all_placed (R v) w vs (flip w v here.0) all.0, later)

    related_placed : (w : W) (ws : List W) → AllByRecursion (R w) ws → AllRelated R ws
        → AllRelated R (place w ws)
    related_placed w [] here all = (tt, tt)
    related_placed w (v ∷ vs) here all =
        related_at w v vs (cmp w v) here all (related_placed w vs here.1 all.1)

    pub related_sorted : (ws : List W) → AllRelated R ws → AllRelated R (sorted ws)
    related_sorted [] all = tt
    related_sorted (w ∷ ws) all =
        related_placed w (sorted ws) (all_sorted (R w) ws all.0) (related_sorted ws all.1)
