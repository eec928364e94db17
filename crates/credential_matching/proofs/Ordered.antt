-- Addresses in ascending order, each once.
use Rattle.std.proofs.Common.{◌≡◌, ◌↔◌, ℕ, Bool, true, false, ◌||◌, List, [], ◌∷◌, Less, Equal, Greater}
use Rattle.std.proofs.Common.{refl, sym, ap, ◌∙◌}
use Rattle.std.specs.BTreeSet.{insert_key}
use Rattle.std.specs.Cmp.{eq_by_cmp_equiv}
use Rattle.std.specs.FinSet.{slice_cmp-IsAntisymmetric}
use Rattle.std.specs.List.{AllByRecursion, Any, Contains, dedup, flat_map, list_any}
use Rattle.std.specs.List.Sorted.{IsPermutation, IsSorted, IsStrictlySortedBy}
use Rattle.std.specs.Ordering.{eq_by_cmp, match_ordering, ordering_reverse}
use Rattle.std.specs.declared.cmp.Ordering.{Ordering}
use Rattle.std.proofs.lemmas.List.Folds.{Any-from_list_any, list_any-append, list_any-from_Any}
use Rattle.std.proofs.lemmas.List.Kept.{Contains-dedup, Contains-from_dedup, IsStrictlySortedBy-dedup}
use Rattle.std.proofs.lemmas.List.Sorted.{Contains-permutation, IsPermutation-sym}
use Rattle.std.proofs.lemmas.Map.Lookups.{CmpEqualImpliesEq, exact_bytes, exact_unsigned}
use Rattle.std.proofs.lemmas.Map.Lookups.{btree_set_from_contains}
use Rattle.std.proofs.lemmas.Map.Views.{Contains-from_any, list_any-from_Contains, tells_apart}
use Rattle.claim_names.specs.declared.address.Step.TheVariants.{Name, Place}
use Rattle.claim_tree.specs.Order.{step_cmp, address_cmp, address_cmp_total}
use Rattle.claim_tree.specs.Tree.{Tree}
use Rattle.claim_path.specs.Select.{Address}
use Rattle.credential_query.specs.Claims.{set_at}
use Rattle.credential_query.specs.Credential.{Credential as CredentialQuery}
use Rattle.credential_matching.specs.Shown.{hits_at, IsShown, in_order, shown}

-- ---- the order of addresses tells them apart

exact_steps : CmpEqualImpliesEq step_cmp
exact_steps (Name k) (Name l) e = ap Name (exact_bytes k l e)
exact_steps (Name k) (Place j) e = cc
exact_steps (Place i) (Name l) e = cc
exact_steps (Place i) (Place j) e = ap Place (exact_unsigned i j e)

exact_addresses : CmpEqualImpliesEq address_cmp
exact_addresses = slice_cmp-IsAntisymmetric exact_steps

abbrev same : Address → Address → Bool
same = eq_by_cmp address_cmp

abbrev has : List Address → Address → Bool
has xs a = list_any (same a) xs

has_from : (xs : List Address) (a : Address) → Contains xs a → has xs a ≡ true
has_from xs a h = list_any-from_Contains (eq_by_cmp_equiv address_cmp_total) a xs h

from_has : (xs : List Address) (a : Address) → has xs a ≡ true → Contains xs a
from_has xs a h = Contains-from_any (tells_apart exact_addresses) a xs h

alike : (b c : Bool) → (b ≡ true → c ≡ true) → (c ≡ true → b ≡ true) → b ≡ c
alike true c f g = sym (f refl)
alike false true f g = g refl
alike false false f g = refl

-- ---- `in_order` ascends

abbrev Sorted : List Address → Type 0
Sorted = IsStrictlySortedBy address_cmp

abbrev Below : List Address → Address → Type 0
Below xs a = AllByRecursion (λ b. address_cmp a b ≡ Less) xs

below_all : (xs : List Address) (a b : Address) → address_cmp a b ≡ Less → Below xs b → Below xs a
below_all [] a b less h = tt
below_all (c ∷ cs) a b less h = (address_cmp_total.trans a b c less h.0, below_all cs a b less h.1)

turned : (a b : Address) → address_cmp a b ≡ Greater → address_cmp b a ≡ Less
turned a b e = address_cmp_total.antisymm b a ∙ ap ordering_reverse e

Below-insert : (xs : List Address) (a b : Address) → address_cmp a b ≡ Less → Below xs a
    → Below (insert_key address_cmp xs b) a
Below-insert [] a b less h = (less, tt)
Below-insert (c ∷ cs) a b less h = by (address_cmp b c) (Below-insert cs a b less h.1)
  where
    by : (r : Ordering) → Below (insert_key address_cmp cs b) a
        → Below (match_ordering r (b ∷ c ∷ cs) (c ∷ cs) (c ∷ insert_key address_cmp cs b)) a
    by Less later = (less, h)
    by Equal later = h
    by Greater later = (h.0, later)

Sorted-insert_by : (r : Ordering) (a b : Address) (xs : List Address) → address_cmp b a ≡ r → Sorted (a ∷ xs)
    → Sorted (insert_key address_cmp xs b)
    → Sorted (match_ordering r (b ∷ a ∷ xs) (a ∷ xs) (a ∷ insert_key address_cmp xs b))
unfolding IsStrictlySortedBy
Sorted-insert_by Less a b xs e h later = ((e, below_all xs b a e h.0), h)
Sorted-insert_by Equal a b xs e h later = h
Sorted-insert_by Greater a b xs e h later = (Below-insert xs a b (turned b a e) h.0, later)

Sorted-insert : (xs : List Address) (b : Address) → Sorted xs → Sorted (insert_key address_cmp xs b)
unfolding IsStrictlySortedBy
Sorted-insert [] b h = (tt, tt)
Sorted-insert (a ∷ xs) b h =
    Sorted-insert_by (address_cmp b a) a b xs refl h (Sorted-insert xs b h.1)

pub in_order-ascends : (xs : List Address) → IsStrictlySortedBy address_cmp (in_order xs)
unfolding IsStrictlySortedBy
in_order-ascends [] = tt
in_order-ascends (a ∷ xs) = Sorted-insert (in_order xs) a (in_order-ascends xs)

-- ---- `in_order` has the same addresses

swapped : (a b c : Bool) → (a || (b || c)) ≡ (b || (a || c))
swapped true true c = refl
swapped true false c = refl
swapped false b c = refl

again : (a b : Bool) → (a || b) ≡ (a || (a || b))
again true b = refl
again false b = refl

has-insert : (xs : List Address) (b x : Address)
    → has (insert_key address_cmp xs b) x ≡ (same x b || has xs x)
has-insert [] b x = refl
has-insert (a ∷ xs) b x = by (address_cmp b a) refl (has-insert xs b x)
  where
    by : (r : Ordering) → address_cmp b a ≡ r
        → has (insert_key address_cmp xs b) x ≡ (same x b || has xs x)
        → has (match_ordering r (b ∷ a ∷ xs) (a ∷ xs) (a ∷ insert_key address_cmp xs b)) x
        ≡ (same x b || (same x a || has xs x))
    by Less e later = refl
    by Equal e later = again (same x a) (has xs x)
        ∙ ap (λ c. same x c || (same x a || has xs x)) (sym (exact_addresses b a e))
    by Greater e later = ap (λ c. same x a || c) later ∙ swapped (same x a) (same x b) (has xs x)

has-in_order : (xs : List Address) (x : Address) → has (in_order xs) x ≡ has xs x
has-in_order [] x = refl
has-in_order (a ∷ xs) x = has-insert (in_order xs) a x ∙ ap (λ c. same x a || c) (has-in_order xs x)

-- ---- what a sort leaves once doubles are removed

has-dedup : (xs ys : List Address) (x : Address) → IsPermutation xs ys → has (dedup same ys) x ≡ has xs x
has-dedup xs ys x moved = alike (has (dedup same ys) x) (has xs x)
    (λ h. has_from xs x (Contains-permutation ys xs x (IsPermutation-sym xs ys moved)
    (Contains-from_dedup same ys x (from_has (dedup same ys) x h))))
    (λ h. has_from (dedup same ys) x (Contains-dedup (eq_by_cmp_equiv address_cmp_total)
    (tells_apart exact_addresses) ys x (Contains-permutation xs ys x moved (from_has xs x h))))

pub dedup-in_order : (xs ys : List Address) → IsPermutation xs ys → IsSorted address_cmp ys
    → dedup same ys ≡ in_order xs
dedup-in_order xs ys moved sorted =
    btree_set_from_contains address_cmp_total (record { keys = dedup same ys })
    (record { keys = in_order xs })
    (IsStrictlySortedBy-dedup address_cmp_total (λ x y. refl) ys sorted) (in_order-ascends xs)
    (λ x. has-dedup xs ys x moved ∙ sym (has-in_order xs x)) exact_addresses

-- ---- addresses of several lists

has-flat_map : {X : Type 0} (f : X → List Address) (xs : List X) (a : Address)
    → has (flat_map f xs) a ≡ list_any (λ x. has (f x) a) xs
has-flat_map f [] a = refl
has-flat_map f (x ∷ xs) a = list_any-append (same a) (f x) (flat_map f xs)
    ∙ ap (λ b. has (f x) a || b) (has-flat_map f xs a)

pub in_order-flat_map : {X : Type 0} (f : X → List Address) (xs : List X) (a : Address)
    → Contains (in_order (flat_map f xs)) a ↔ Any (λ x. Contains (f x) a) xs
in_order-flat_map f xs a = (
  λ h.
      let any : Any (λ x. has (f x) a ≡ true) xs = Any-from_list_any (λ x. has (f x) a) xs
      (sym (has-in_order (flat_map f xs) a ∙ has-flat_map f xs a)
      ∙ has_from (in_order (flat_map f xs)) a h) in
      (any.0, any.1, any.2, any.3, from_has (f any.1) a any.4),
  λ h. from_has (in_order (flat_map f xs)) a
      (has-in_order (flat_map f xs) a ∙ has-flat_map f xs a
      ∙ list_any-from_Any (λ x. has (f x) a) xs
      (h.0, h.1, h.2, h.3, has_from (f h.1) a h.4)),
)

-- ---- what a claim set shows

pub shown-IsShown : (q : CredentialQuery) (s : ℕ) (t : Tree) → IsShown q s t (shown q s t)
shown-IsShown q s t = record {
  ascending = in_order-ascends (flat_map (hits_at q.claims t) (set_at q s));
  hits = in_order-flat_map (hits_at q.claims t) (set_at q s);
}
