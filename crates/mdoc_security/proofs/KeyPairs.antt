-- The pairs of a key, in the order of their keys.
use Rattle.std.proofs.Common.{◌≡◌, ℕ, List, [], ◌∷◌, ◌++◌, length, Ordering, Less, refl, ap, ◌∙◌, subst}
use Rattle.std.proofs.Common.{nat_cmp, IsPermutation}
use Rattle.std.specs.Global.{Vec}
use Rattle.std.specs.BTreeMap.{insert_entry}
use Rattle.std.specs.Cmp.{IsTotalOrder}
use Rattle.std.specs.Cmp.Lexicographic.{slice_cmp}
use Rattle.std.specs.List.{AllByRecursion}
use Rattle.std.specs.List.Sorted.{IsStrictlySortedBy}
use Rattle.std.specs.Map.{keys_of}
use Rattle.std.proofs.lemmas.Cmp.{nat_list_cmp_total}
use Rattle.cbor_core.specs.Order.{owned, AppendsSortedMap}
use Rattle.cbor_core.specs.Writing.{head_bytes, pairs_bytes}
use Rattle.mdoc_security.specs.DeviceKey.{map_bytes}
use Rattle.mdoc_security.specs.code.Pairs.{owned_pairs}
use Rattle.mdoc_security.proofs.Inserting.{insert_seen}
use Rattle.mdoc_items.proofs.SortedOnce.{IsAscending, sorted_unique}

abbrev Pair : Type 0
Pair = List ℕ × List ℕ

abbrev vec_cmp : Vec ℕ → Vec ℕ → Ordering
vec_cmp a b = slice_cmp nat_cmp a.items b.items

pub put_pair : (es : List (Vec ℕ × Vec ℕ)) (k v : Vec ℕ)
    → owned_pairs (insert_entry vec_cmp es k v) ≡ insert_entry (slice_cmp nat_cmp)
    (owned_pairs es) k.items v.items
put_pair es k v = insert_seen (λ (x : Vec ℕ). x.items) (λ (x : Vec ℕ). x.items) vec_cmp (slice_cmp nat_cmp)
    (λ a b. refl) es k v

abbrev pair_cmp : Pair → Pair → Ordering
pair_cmp a b = slice_cmp nat_cmp a.0 b.0

total : IsTotalOrder pair_cmp
total = record {
  antisymm = λ a b. nat_list_cmp_total.antisymm a.0 b.0;
  trans = λ a b c. nat_list_cmp_total.trans a.0 b.0 c.0;
  congr = λ a b c. nat_list_cmp_total.congr a.0 b.0 c.0;
}

all_below : (k : Vec ℕ) (es : List (Vec ℕ × Vec ℕ)) (p : Pair) → p.0 ≡ k.items
    → AllByRecursion (λ y. vec_cmp k y ≡ Less) (keys_of es)
    → AllByRecursion (λ q. pair_cmp p q ≡ Less) (owned_pairs es)
all_below k [] p same h = tt
all_below k (e ∷ es) p same h =
    (ap (λ x. slice_cmp nat_cmp x e.0.items) same ∙ h.0, all_below k es p same h.1)

ascending : (es : List (Vec ℕ × Vec ℕ)) → IsStrictlySortedBy vec_cmp (keys_of es)
    → IsAscending (λ a b. pair_cmp a b ≡ Less) (owned_pairs es)
unfolding IsStrictlySortedBy
ascending [] h = tt
ascending (e ∷ es) h = (all_below e.0 es (e.0.items, e.1.items) refl h.0, ascending es h.1)

-- a map of pairs in order is written as they stand
pub written_in_order : (es order : List (Vec ℕ × Vec ℕ)) (new : List ℕ) → order ≡ es
    → IsStrictlySortedBy vec_cmp (keys_of es) → AppendsSortedMap [] new (owned order)
    → new ≡ map_bytes (owned_pairs es)
written_in_order es order new same strict (sorted, in_order, is) =
    let same_pairs : owned order ≡ owned_pairs es = ap owned_pairs same in
    let one : sorted ≡ owned_pairs es =
    sorted_unique pair_cmp total (owned_pairs es) sorted (ascending es strict)
    (subst (λ (l : List Pair). IsPermutation l sorted) same_pairs in_order.0) in_order.1 in
    is ∙ ap (λ l. head_bytes 5 (length l) ++ pairs_bytes sorted) same_pairs
    ∙ ap (λ l. head_bytes 5 (length (owned_pairs es)) ++ pairs_bytes l) one
