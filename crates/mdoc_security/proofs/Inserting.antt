-- Entries that are put into a list in order, seen through what their keys and values stand for.
use Rattle.std.proofs.Common.{◌≡◌, List, [], ◌∷◌, map, Ordering, Less, Equal, Greater, refl, ap, ◌∙◌}
use Rattle.std.specs.BTreeMap.{insert_entry}
use Rattle.std.specs.Ordering.{match_ordering}

module _ {K X J Y : Type 0} (f : K → J) (g : X → Y) (R : K → K → Ordering) (S : J → J → Ordering)
    (alike : (a b : K) → R a b ≡ S (f a) (f b)) where
  abbrev both : K × X → J × Y
  both e = (f e.0, g e.1)

  at : (o : Ordering) (e : K × X) (es : List (K × X)) (k : K) (v : X)
      → map both (insert_entry R es k v) ≡ insert_entry S (map both es) (f k) (g v)
      → map both (match_ordering o ((k, v) ∷ e ∷ es) ((e.0, v) ∷ es) (e ∷ insert_entry R es k v))
      ≡ match_ordering o ((f k, g v) ∷ both e ∷ map both es) ((f e.0, g v) ∷ map both es)
      (both e ∷ insert_entry S (map both es) (f k) (g v))
  at Less e es k v h = refl
  at Equal e es k v h = refl
  at Greater e es k v h = ap (λ l. both e ∷ l) h

  pub insert_seen : (es : List (K × X)) (k : K) (v : X)
      → map both (insert_entry R es k v) ≡ insert_entry S (map both es) (f k) (g v)
  insert_seen [] k v = refl
  insert_seen (e ∷ es) k v =
      at (R k e.0) e es k v (insert_seen es k v)
      ∙ ap (λ o. match_ordering o ((f k, g v) ∷ both e ∷ map both es) ((f e.0, g v) ∷ map both es)
      (both e ∷ insert_entry S (map both es) (f k) (g v))) (alike k e.0)
