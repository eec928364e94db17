-- Looking up in pairs of which each has a key of its own.
use Rattle.std.proofs.Common.{◌≡◌, List, [], ◌∷◌, map, Option, Some, None, refl}
use Rattle.std.specs.List.{AllByRecursion}
use Rattle.std.specs.Option.{option_or}
use Rattle.cbor_core.specs.Order.{Pair}
use Rattle.mdoc_items.proofs.SortedOnce.{all_weaker}
use Rattle.mdoc_written.specs.Containers.{AllRelated}

-- `here w p` is what the pair has under the key of w, where it has that key.
module _ {W X : Type 0} (f : W → Pair) (here : W → Pair → Option X) where
  abbrev pub find_last : W → List Pair → Option X
  find_last w [] = None
  find_last w (p ∷ ps) = option_or (find_last w ps) (here w p)

  -- neither has the key of the other
  abbrev pub Apart : W → W → Type 0
  Apart w v = (here w (f v) ≡ None) × (here v (f w) ≡ None)

  pub apart_flip : (w v : W) → Apart w v → Apart v w
  apart_flip w v both = (both.1, both.0)

  none_found : (w : W) (ws : List W) → AllByRecursion (Apart w) ws → find_last w (map f ws) ≡ None
  none_found w [] all = refl
  none_found w (v ∷ vs) all = rw (none_found w vs all.1, all.0.0) refl

  module _ (value : W → X) where
    abbrev pub Own : W → Type 0
    Own w = here w (f w) ≡ Some (value w)

    abbrev pub IsFound : List Pair → W → Type 0
    IsFound ps w = find_last w ps ≡ Some (value w)

    pub all_found : (ws : List W) → AllByRecursion Own ws → AllRelated Apart ws
        → AllByRecursion (IsFound (map f ws)) ws
    all_found [] own apart = tt
    all_found (w ∷ ws) own apart = (
      rw (none_found w ws apart.0, own.0) refl,
      all_weaker (IsFound (map f ws)) (IsFound (f w ∷ map f ws)) (λ v found. rw found refl) ws
          (all_found ws own.1 apart.1),
    )
